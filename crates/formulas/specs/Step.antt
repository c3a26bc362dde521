-- Step voltage in volts. §4.7.
use Rattle.std.specs.Prelude.{◌-◌, ◌^◌, cond}
use Rattle.exact.specs.{Fraction.{Fraction, whole, decimal, ◌+f◌, ◌·f◌, inv}, Exact.{Exact, exactly, ◌+x◌, ◌−x◌, ◌·x◌, ◌÷x◌, minus}}
use Rattle.exact.specs.{Logarithm.{ln}, Exponential.{exp}, Pi.{π}}
use Rattle.case.specs.declared.Case.{Case}
use Rattle.formulas.specs.{Lengths.{ρ, D, h, Lc, LR, equal_counts, n, Ki}, Current.{IG}}

module _ (c : Case) where
  -- 0.5^(n−2): of a square one over 2^(n−2), "working the power of one half itself"; else "e to the power −(n−2)·ln 2"
  unfoldable pub half_power : Exact
  half_power =
      cond (equal_counts c) (exactly (inv (whole (2 ^ (c.across - 2)))))
      (exp (minus ((n c −x exactly (whole 2)) ·x ln (exactly (whole 2)))))

  -- "LS = 0.75·Lc + 0.85·LR"
  unfoldable pub LS : Fraction
  LS = decimal 75 2 ·f Lc c +f decimal 85 2 ·f LR c

  -- "Ks = (1/(2h) + 1/(D+h) + (1 − 0.5^(n−2))/D)/π"
  unfoldable pub Ks : Exact
  Ks =
      (exactly (inv (whole 2 ·f h c) +f inv (D c +f h c)) +x (exactly (whole 1) −x half_power) ÷x exactly (D c)) ÷x π

  -- "Step voltage = ρ·Ks·Ki·IG/LS"
  unfoldable pub step : Exact
  step = exactly (ρ c) ·x Ks ·x Ki c ·x IG c ÷x exactly LS
