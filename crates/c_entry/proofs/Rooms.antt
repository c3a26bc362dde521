-- The stores that `c_entry` lends have room: that of a short sheet for its lines, the other for the lines of any sheet.
use Prim.Native.Nat.{ℕ, ◌*◌, ◌≤◌}
use mathlib.Core.List.{List}
use native.Mathlib.{Omega.{arith}, Nat.{le_trans}}
use lib.ListN.{length}
use Rattle.case.specs.{declared.Form.TheVariants.{Present}, Columns.{columns, name_count, name_count_lem}, Parts.{form_of}}
use Rattle.judgement.{specs.{Limits.{most_lines}, Read.{Room}}, proofs.Whole.{most_room}}

pub short_room : {lines : List (List ℕ)} (store : List ℕ) → length lines ≤ 8 → name_count * 8 ≤ length store
    → Room (form_of Present) lines store
unfolding form_of
short_room store few room = record { enough = λ {n} f m. within n (le_trans f few) }
  where
    within : (n : ℕ) → n ≤ 8 → length columns * n ≤ length store
    within n f = rw name_count_lem (omega (arith, room))

pub whole_room : {lines : List (List ℕ)} (store : List ℕ) → name_count * most_lines ≤ length store → Room (form_of Present) lines store
unfolding form_of
whole_room store h =
    let room : length columns * most_lines ≤ length store = omega (arith, name_count_lem, h) in
    most_room store room
