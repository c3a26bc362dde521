-- `fault_current` is the product of fault and the factor's upper end.
use Prim.Native.Nat.{ℕ, ◌*◌, ◌≤◌}
use mathlib.Core.Path.{◌≡◌}
use native.Mathlib.Omega.{arith}
use lib.{Dec.{lit<}, IntN.{ℤ, pos, nat_abs}}
use mir.{Facts.{to_z-of_z}, Syntax.{w64}, Val.{Fits}}
use Rattle.interval.{specs.Span.{Span}, proofs.{Held.{Held}, Fits.{fits_product}, SpanFits.{read_lower, read_upper}}}
use Rattle.whole.proofs.Bits.{read, natural_cast}
use Rattle.exponential.specs.Ends.{billion}
use Rattle.decrement.proofs.Widths.{factor_span}
use borrow.Author.Rules.{rules}
use Rattle.current.proofs.size.fault_current.Goals as goal
use Rattle.current.proofs.size.fault_current.Goals.{After-struct_told-1}

module _ (c : After-struct_told-1) where
  held : Held c.args.factor
  held = search rules

  span : Span c.args.factor billion 2236068000 500
  span = rw c.requires.factor_value (factor_span c.requires.bounds)

  product : (z : ℤ) {n : ℕ} → read z ≡ pos n → n ≤ 2236068000 → Fits w64 (c.args.c.fault * nat_abs (read z))
  product z e h = rw e (fits_product c.requires.bounds.fault.high h (lit< tt))

-- either end of the factor would do for the needs: what the function returns distinguishes them
pub overflow_cast-result-2 : goal.overflow_cast-result-2
overflow_cast-result-2 c =
    let lower = natural_cast (span (goal.at.overflow_cast-result-2 c).After-struct_told-1).a (held (goal.at.overflow_cast-result-2 c).After-struct_told-1).0 (read_lower (held (goal.at.overflow_cast-result-2 c).After-struct_told-1) (span (goal.at.overflow_cast-result-2 c).After-struct_told-1)) in
    let upper = natural_cast (span (goal.at.overflow_cast-result-2 c).After-struct_told-1).b (held (goal.at.overflow_cast-result-2 c).After-struct_told-1).1 (read_upper (held (goal.at.overflow_cast-result-2 c).After-struct_told-1) (span (goal.at.overflow_cast-result-2 c).After-struct_told-1)) in
    search

pub overflow_mul-result : goal.overflow_mul-result
overflow_mul-result c =
    let lower = product (goal.at.overflow_mul-result c).After-struct_told-1 c.args.factor.lower (read_lower (held (goal.at.overflow_mul-result c).After-struct_told-1) (span (goal.at.overflow_mul-result c).After-struct_told-1)) (omega (arith, (span (goal.at.overflow_mul-result c).After-struct_told-1).order, (span (goal.at.overflow_mul-result c).After-struct_told-1).to)) in
    let upper = product (goal.at.overflow_mul-result c).After-struct_told-1 c.args.factor.upper (read_upper (held (goal.at.overflow_mul-result c).After-struct_told-1) (span (goal.at.overflow_mul-result c).After-struct_told-1)) (span (goal.at.overflow_mul-result c).After-struct_told-1).to in
    search

pub returns : goal.returns
returns c = rw (to_z-of_z (held (goal.at.returns c).After-struct_told-1).1, c.requires.factor_value)
