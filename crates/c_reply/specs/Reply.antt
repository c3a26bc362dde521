-- §11.1, §11.3: the answers of operations that report numbers of their own, as numbers in an array that the caller lends.
use Rattle.std.specs.Prelude.{ℕ, ◌<◌, ◌^◌}
use mathlib.Core.{Path.{◌≡◌}, Bool.{cond}, List.{List, [], ◌∷◌, ◌++◌}}
use lib.{Dec.{ltb}, IntN.{ℤ, pos}, ListN.{length, drop}}
use Rattle.readings.specs.declared.{Report.{Report}}
use Rattle.std.specs.Prelude.{Result, Ok, Err}
use Rattle.refusal.specs.{declared.Refused.{Refused as Refusal}, Refused.{refuse}}
use Rattle.staged.specs.declared.GridShare.{GridShare}
use Rattle.yards.specs.declared.FewestLines.{FewestLines}
use Rattle.yards.specs.declared.FewestLines.TheVariants.{Found, None}

-- a count and some numbers, or a refusal with number, line and column
pub data Reply : Type 0 where
  Numbers : ℕ → List ℤ → Reply
  Refused : ℕ → ℕ → ℕ → Reply

-- an array too short for the numbers is refused with 8, after every refusal of the operation
unfoldable pub reply_answer : ℕ → Reply → Result ℕ Refusal
reply_answer room (Numbers count zs) = cond (ltb room (length zs)) (refuse 8 0 0) (Ok count)
reply_answer room (Refused number line column) = refuse number line column

-- the numbers, and past the last what the array held; a refusal leaves it as it was
unfoldable pub numbers_after : List ℤ → Reply → List ℤ
numbers_after before (Numbers count zs) = cond (ltb (length before) (length zs)) before (zs ++ drop (length zs) before)
numbers_after before (Refused number line column) = before

pub record Replied (reply : Reply) (before after : List ℤ) (a : Result ℕ Refusal) : Type 0 where
  pub answer_is : a ≡ reply_answer (length before) reply
  pub numbers_are : after ≡ numbers_after before reply

-- ---- soil

-- lower and upper end of the least, the greatest and the mean, in micro-ohm metres, and the soil column in ohm metres
unfoldable pub soil_numbers : Report → List ℤ
soil_numbers r =
    r.least.lower ∷ r.least.upper ∷ r.greatest.lower ∷ r.greatest.upper ∷ r.mean.lower ∷ r.mean.upper ∷ pos r.soil ∷ []

unfoldable pub soil_reply : Result Report Refusal → Reply
soil_reply (Ok r) = Numbers 7 (soil_numbers r)
soil_reply (Err why) = Refused why.0 why.1 why.2

-- ---- split

-- the grid's in-phase and quadrature part in milliamperes, and the split in per mille
unfoldable pub split_reply : Result GridShare Refusal → Reply
split_reply (Ok g) = Numbers 3 (g.in_phase ∷ g.quadrature ∷ pos g.per_mille ∷ [])
split_reply (Err why) = Refused why.0 why.1 why.2

-- a split that a signed number of 64 bits has, which every split is (SplitSize.antt of c_questions/proofs); of a refusal nothing
unfoldable pub SmallSplit : Result GridShare Refusal → Type 0
SmallSplit (Ok g) = g.per_mille < 2 ^ 63
SmallSplit (Err why) = Unit {0}

-- ---- fewest lines

-- 1 with the lines each way, the rods and how many yards were tried; 0 with 0, 0 and how many were tried, none of them safe
unfoldable pub fewest_reply : Result FewestLines Refusal → Reply
fewest_reply (Ok (Found lines rods tried)) = Numbers 1 (pos lines ∷ pos rods ∷ pos tried ∷ [])
fewest_reply (Ok (None tried)) = Numbers 0 (pos 0 ∷ pos 0 ∷ pos tried ∷ [])
fewest_reply (Err why) = Refused why.0 why.1 why.2
