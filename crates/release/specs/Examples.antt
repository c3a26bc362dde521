-- §7.2: the licence's answer, the lines of a station and the seasons without a line, computed.
use Rattle.std.specs.Prelude.{ℕ}
use mathlib.Core.{Path.{◌≡◌, refl}, List.{List, [], ◌∷◌, map}}
use Rattle.whole.specs.Count.{one}
use Rattle.case.specs.{declared.Case.{Case}, Case.{case_of}}
use Rattle.tally.specs.{Lines.{licensed, lines_of, count_of, has_line, without, missing, same_yard, other_yard, first_line}, Tally.{released}}
use Rattle.release.specs.Licence.{entries_of, bad_count, among, wrong_station, wrong_seasons, wrong_area, first_wrong}
use Rattle.release.specs.Answer.{room_answer, after_entries, licence_answer}
use Rattle.std.specs.Prelude.{Result, Ok}
use Rattle.refusal.specs.{declared.Refused.{Refused}, Refused.{refuse}}

-- a licence, the length of the table, and the answer
record Example : Type 0 where
  licence : List ℕ
  room : ℕ
  answered : Result ℕ Refused

abbrev row : List ℕ → ℕ → Result ℕ Refused → Example
row licence room answered = record { licence = licence; room = room; answered = answered }

examples : List Example
examples =
    row (7 ∷ 3 ∷ 0 ∷ []) 8 (Ok 1)
    ∷ row (7 ∷ 15 ∷ 211 ∷ 65535 ∷ 1 ∷ 2000 ∷ []) 20 (Ok 2)
    -- 21: none, no multiple of three
    ∷ row [] 8 (refuse 21 0 0)
    ∷ row (7 ∷ 3 ∷ []) 8 (refuse 21 0 0)
    ∷ row (7 ∷ 3 ∷ 0 ∷ 9 ∷ []) 8 (refuse 21 0 0)
    -- 22: the station, the seasons, the cross-section, the station of an earlier entry; the station before the seasons before the
    -- cross-section, the first such entry
    ∷ row (0 ∷ 3 ∷ 0 ∷ []) 8 (refuse 22 1 1)
    ∷ row (65536 ∷ 0 ∷ 0 ∷ []) 8 (refuse 22 1 1)
    ∷ row (7 ∷ 16 ∷ 2001 ∷ []) 8 (refuse 22 1 2)
    ∷ row (7 ∷ 15 ∷ 2001 ∷ []) 8 (refuse 22 1 3)
    ∷ row (9 ∷ 1 ∷ 0 ∷ 7 ∷ 3 ∷ 0 ∷ 9 ∷ 2 ∷ 0 ∷ []) 24 (refuse 22 3 1)
    ∷ row (7 ∷ 0 ∷ 0 ∷ 0 ∷ 1 ∷ 0 ∷ []) 16 (refuse 22 1 2)
    -- 23 comes last
    ∷ row (7 ∷ 3 ∷ 0 ∷ []) 7 (refuse 23 0 0)
    ∷ row (0 ∷ 3 ∷ 0 ∷ []) 7 (refuse 22 1 1)
    ∷ []

right : map (λ e. licence_answer e.licence e.room) examples ≡ map (λ e. e.answered) examples
unfolding examples entries_of bad_count among wrong_station wrong_seasons wrong_area first_wrong room_answer after_entries licence_answer
right = refl

-- the sample's station (§3.3) in seasons 1 and 2, and another station
abbrev line : ℕ → ℕ → ℕ → Case
line station season depth =
    case_of (station ∷ season ∷ 400 ∷ 2500 ∷ 102 ∷ 500 ∷ 500 ∷ 500 ∷ 70 ∷ 3180 ∷ 600 ∷ 10 ∷ 11 ∷ 11 ∷ 7000 ∷ depth ∷ 100 ∷ 0 ∷ 0 ∷ 0 ∷ 1 ∷ 60
    ∷ [])

abbrev lines : List Case
lines = line 7 1 500 ∷ line 9 3 500 ∷ line 7 2 600 ∷ []

own : lines_of 7 lines ≡ line 7 1 500 ∷ line 7 2 600 ∷ []
unfolding lines_of
own = refl

-- seasons 1, 3 and 4 are licensed, and season 1 has a line
two_missing : missing 13 (lines_of 7 lines) ≡ 2
unfolding lines_of licensed one has_line without missing
two_missing = refl

-- the second line is at another depth
one_other : count_of (other_yard (first_line (lines_of 7 lines))) (lines_of 7 lines) ≡ 1
unfolding lines_of one count_of same_yard other_yard
one_other = refl

held : released 0 0 0 1 0 ≡ 2
unfolding released
held = refl
