-- `wrong_column` tests the station, then the seasons, then the cross-section.
use Rattle.std.proofs.Common.{arith}
use Rattle.std.proofs.lemmas.{Bool.Decides.{nat_tests}, Grind.{common_steps}}
use Rattle.release.specs.{Licence.{wrong_station, wrong_seasons, wrong_area}, Earlier.{wrong_at}}
use Rattle.release.proofs.licence.wrong_column.Goals as goal

pub returns-then-stands_before : goal.returns-then-stands_before
unfolding wrong_at wrong_station
returns-then-stands_before c = grind (arith, common_steps, nat_tests)

pub returns-then-not-contains-2 : goal.returns-then-not-contains-2
unfolding wrong_at wrong_station wrong_seasons
returns-then-not-contains-2 c = grind (arith, common_steps, nat_tests)

pub returns-then-area-gt-MOST_AREA : goal.returns-then-area-gt-MOST_AREA
unfolding wrong_at wrong_station wrong_seasons wrong_area
returns-then-area-gt-MOST_AREA c = grind (arith, common_steps, nat_tests)

pub returns-else-area-gt-MOST_AREA : goal.returns-else-area-gt-MOST_AREA
unfolding wrong_at wrong_station wrong_seasons wrong_area
returns-else-area-gt-MOST_AREA c = grind (arith, common_steps, nat_tests)
