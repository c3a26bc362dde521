-- The summary (§7.1) of the sample (§3.3), computed by hand from its rows.
use mathlib.Core.{Path.{◌≡◌, refl}, List.{[], ◌∷◌, map}}
use Rattle.whole.specs.Count.{one}
use Rattle.interval.specs.Operations.{natural}
use Rattle.text.specs.Text.{bytes}
use Rattle.writing.specs.{Decimal.{digits_in, digit_count, last_digits, decimal, signed}, Text.{more_fields, parted, ended, text_of}}
use Rattle.decision.specs.{declared.Verdict.TheVariants.{Safe, Unsafe, Undecided}, Verdict.{verdict_number}}
use Rattle.station_sums.specs.Summary.{same_z, among, by_appearance, stations, rows_of, count_of, higher, highest, worst_season, station_numbers}
use Rattle.station_sums.specs.Summary.{summary_of}
use Rattle.fields.specs.Listed.{listed}
use Rattle.row_text.specs.Examples.{sample_row}
use Rattle.sheet_text.specs.Texts.{summary_names}

sample_summary : listed summary_names (map (map signed) (summary_of (sample_row 1 Unsafe ∷ sample_row 2 Safe ∷ sample_row 3 Undecided ∷ [])))
    ≡ bytes "station,seasons,safe,unsafe,undecided,highest_mesh_season\n7,3,1,1,1,1\n"
unfolding digits_in digit_count last_digits decimal signed more_fields parted ended text_of natural verdict_number summary_names listed
    same_z one among by_appearance stations rows_of count_of higher highest worst_season station_numbers summary_of
sample_summary = refl
