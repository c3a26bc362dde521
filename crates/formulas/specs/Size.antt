-- Conductor size. §4.9 (IEEE Std 80-2013, equations 47 and 48, Table 2).
use Rattle.std.specs.Prelude.{ℕ, zero, suc, ◌*◌, ◌^◌}
use mathlib.Core.{Bool.{Bool, cond}, List.{List, [], ◌∷◌}}
use lib.{ListN.{get_or}, Dec.{leb}}
use Rattle.exact.specs.{Fraction.{decimal, ◌·f◌}, Exact.{Exact, exactly, ◌·x◌}, Root.{root}}
use Rattle.case.specs.declared.Case.{Case}

-- "Each metal has its own Kf constant", in hundredths; no metal has the number 0
unfoldable pub constants : List ℕ
constants =
    0 ∷ 700 ∷ 706 ∷ 1178 ∷ 1045 ∷ 1206 ∷ 1464 ∷ 1726 ∷ 1839 ∷ 1472 ∷ 2896 ∷ 3005 ∷ []

unfoldable pub Kf : ℕ → ℕ
Kf metal = get_or constants metal 0

-- the smallest number from `first` on that passes a test, of `tries` numbers
unfoldable pub smallest : (ℕ → Bool) → ℕ → ℕ → ℕ
smallest test first zero = first
smallest test first (suc tries) = let later = smallest test (suc first) tries in cond (test first) first later

-- f is the upper end of the decrement factor as reported, in billionths: "Conductor size is the smallest whole kcmil not below the product
-- with the factor's upper end"
module _ (c : Case) (f : ℕ) where
  -- "I·Kf·√t, I being fault·Df in kA", in kcmil; "conductor size uses wire with the factor from clear"
  unfoldable pub required : Exact
  required = exactly (decimal (c.fault * f) 12 ·f decimal (Kf c.metal) 2) ·x root 2 (exactly (decimal c.wire 3))

  -- I·Kf in units of 10^−14
  unfoldable pub duty : ℕ
  duty = c.fault * f * Kf c.metal

  -- "the smallest whole kcmil not below I·Kf·√t": squared, with t in ms, duty² · wire ≤ kcmil² · 10^31. No size is tried above duty² ·
  -- wire, which passes. proofs/Size.antt shows that this is the smallest number which `required` is not above.
  unfoldable pub enough : ℕ → Bool
  enough kcmil = leb (duty ^ 2 * c.wire) (kcmil ^ 2 * 10 ^ 31)

  unfoldable pub size : ℕ
  size = smallest enough 0 (duty ^ 2 * c.wire)
