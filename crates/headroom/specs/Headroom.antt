-- The headroom of a case. §6.6: "after the checks of one case (5, 6), the greatest fault current in 100..80000 at which the case, all else
-- equal, is answered safe, or none".
use Rattle.std.specs.Prelude.{ℕ, zero, suc, ◌≤◌, ◌≡◌, Option, Some, None, Result, Ok, Err}
use Rattle.refusal.specs.declared.Refused.{Refused}
use Rattle.case.specs.{declared.Case.{Case}, Check.{record_judged}, Bounds.{Between}, Fault.{with_fault}}
use Rattle.decision.specs.declared.Verdict.TheVariants.{Safe}
use Rattle.row.specs.Ends.{row_of}
use Rattle.yards.specs.Fewest.{AnsweredYard}

abbrev pub InRange : ℕ → Type 0
InRange f = Between 100 f 80000

-- the case is answered safe with this fault current in place of its own
abbrev pub SafeWith : Case → ℕ → Type 0
SafeWith c f = (row_of (with_fault f c)).verdict ≡ Safe

-- with any fault current in range the case is sound, so that it is answered with its row, and the row is right
abbrev pub AnsweredWithin : Case → Type 0
AnsweredWithin c = (f : ℕ) → InRange f → AnsweredYard (with_fault f c)

-- "with F, every fault current in range is answered safe if and only if it is at most F"
pub record Headroom (c : Case) (F : ℕ) : Type 0 where
  pub in_range_lem : InRange F
  pub answered : AnsweredWithin c
  pub safe : (f : ℕ) → InRange f → f ≤ F → SafeWith c f
  pub greatest : (f : ℕ) → InRange f → SafeWith c f → f ≤ F

-- "with none, none is"
pub record NoHeadroom (c : Case) : Type 0 where
  pub answered : AnsweredWithin c
  pub none_safe : (f : ℕ) → InRange f → ¬ SafeWith c f

-- the greatest fault current as a number, with 0 for none
unfoldable pub RightFault : Case → ℕ → Type 0
RightFault c zero = NoHeadroom c
RightFault c (suc k) = Headroom c (suc k)

unfoldable pub room_of : ℕ → Option ℕ
room_of zero = None
room_of (suc k) = Some (suc k)

-- nothing is required of a refusal here
unfoldable pub RightRoom : Case → Result (Option ℕ) Refused → Type 0
RightRoom c (Ok (Some F)) = Headroom c F
RightRoom c (Ok None) = NoHeadroom c
RightRoom c (Err why) = Unit {0}

-- what an answer says that the checks of one case have found
unfoldable pub checked : Result (Option ℕ) Refused → Result (Unit {0}) Refused
checked (Ok F) = Ok tt
checked (Err why) = Err why

-- the answer after the checks, and what holds of it. Two wrong programs: one that refuses a disagreement with 5 breaks `checks`; one that
-- answers the first fault current that is not safe breaks `right`.
pub record HeadroomAnswered (c : Case) (r : Result (Option ℕ) Refused) : Type 0 where
  pub checks : record_judged c ≡ checked r
  pub right : RightRoom c r
