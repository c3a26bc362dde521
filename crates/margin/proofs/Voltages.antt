-- Voltages that may be compared are natural numbers, and their margin fits 64 bits.
use Prim.Native.Nat.{ℕ, ◌*◌, ◌≤◌, ◌^◌}
use mathlib.Core.Path.{◌≡◌, refl}
use native.Mathlib.{Omega.{arith}, Nat.{mul-le-mul_left, div-le_self}}
use lib.{Dec.{T}, IntN.{ℤ, pos, negsuc}, Signed.{le_z, le_z_yes}}
use mir.Facts.{and_yes}
use Rattle.whole.{specs.{Whole.{ceil_div}, Wide.{WideFits}}, proofs.{Choice.{le_pos}, Rounding.{ceil_div_by}}}
use Rattle.margin.specs.Margin.{whole, most_voltage, in_range, comparable}

-- a number from low to the most
pub record Natural (low : ℕ) (z : ℤ) : Type 0 where
  pub n : ℕ
  pub is : z ≡ pos n
  pub from : low ≤ n
  pub to : n ≤ most_voltage

natural_of : (low : ℕ) (z : ℤ) → T (le_z (pos low) z) × T (le_z z (pos most_voltage)) → Natural low z
natural_of low (pos n) t = record { n = n; is = refl; from = le_pos (le_z_yes t.0); to = le_pos (le_z_yes t.1) }
natural_of low (negsuc n) t = absurd t.0

in_range_lem : (low : ℕ) (z : ℤ) → T (in_range (pos low) z) → Natural low z
unfolding in_range
in_range_lem low z t = natural_of low z (and_yes (le_z (pos low) z) (le_z z (pos most_voltage)) t)

-- a voltage and a tolerable voltage
pub record Voltages (voltage tolerable : ℤ) : Type 0 where
  pub v : Natural 0 voltage
  pub t : Natural 1 tolerable

pub voltages : (voltage tolerable : ℤ) → T (comparable voltage tolerable) → Voltages voltage tolerable
unfolding comparable
voltages voltage tolerable h =
    let p = and_yes (in_range (pos 0) voltage) (in_range (pos 1) tolerable) h in
    record { v = in_range_lem 0 voltage p.0; t = in_range_lem 1 tolerable p.1 }

-- ---- 64 bits

pub margin_fits : {v t : ℕ} → v ≤ most_voltage → 1 ≤ t → t ≤ most_voltage → WideFits whole v t
margin_fits {v} {t} h p q = record { divisor = p; rest = omega arith; quotient = omega (arith, div-le_self v t) }

pub share_small : {v t : ℕ} → v ≤ most_voltage → 1 ≤ t → ceil_div (whole * v) t ≤ 10 ^ 18
share_small {v} {t} h p = ceil_div_by (whole * v) p (omega (arith, mul-le-mul_left (10 ^ 18) p))
