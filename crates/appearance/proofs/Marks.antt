-- The marks of stations: a station whose mark is not among them is not among the stations.
use Prim.Native.Nat.{ℕ, ◌+◌, ◌<◌}
use mathlib.Core.{Path.{◌≡◌, ap, ◌∙◌}, Bool.{Bool, false}, List.{List}}
use native.Mathlib.Omega.{arith}
use lib.{IntN.{ℤ, pos}, ListN.{length, get_or, set, length-set}, Seq.{get_or-set_same, get_or-set_other}}
use borrow.Author.{Count.{below_more}}
use Rattle.appearance.specs.Places.{mark_of, NotMarked, Marked}
use Rattle.appearance.proofs.Standing.{NotAmong}

-- ---- the comparison

-- none of the marks before one is x, where none was found
pub record Marking (marks : List ℕ) (x : ℕ) (found : Bool) (i : ℕ) : Type 0 where
  pub none : found ≡ false → (k : ℕ) → k < i → get_or marks k 0 ≡ x → ⊥

-- ---- the stations

-- a station whose mark is not there is new
pub not_marked : {known : List ℤ} {marks : List ℕ} {count : ℕ} {station : ℤ} → Marked known marks count
    → NotMarked marks count (mark_of station) → NotAmong known count station
not_marked m n = record { none = λ k h e. n.none k h (m.marks_are k h ∙ ap mark_of e) }

-- what is not among all marks is not among the first ones
pub first_not_marked : {known : List ℤ} {marks : List ℕ} {count x : ℕ} → Marked known marks count → NotMarked marks (length marks) x
    → NotMarked marks count x
first_not_marked m n = record { none = λ k h. n.none k (omega (arith, m.room)) }

-- a new station with its mark
pub marked_more : {known : List ℤ} {marks : List ℕ} {count : ℕ} (station : ℤ) → Marked known marks count → count < length known
    → count < length marks → Marked (set known count station) (set marks count (mark_of station)) (count + 1)
marked_more {known} {marks} {count} station m h l =
    record {
      room = rw (length-set marks count (mark_of station)) (omega arith);
      marks_are =
          below_more _ _
          (λ k g.
          rw (
            get_or-set_other marks count k (mark_of station) 0 (λ e. omega (arith, e)),
            get_or-set_other known count k station (pos 0)
                (λ e. omega (arith, e)),
          )
          (m.marks_are k g))
          (rw (get_or-set_same marks count (mark_of station) 0 l, get_or-set_same known count station (pos 0) h));
    }
