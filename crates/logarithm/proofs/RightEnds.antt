-- The promise on the pair of ends, from the laws of the ends.
use Prim.Native.Nat.{ℕ}
use mathlib.Core.{Path.{◌≡◌}, Bool.{true, and-eq-true_iff}}
use native.Mathlib.Omega.{arith}
use borrow.Author.Tests.{leb-true}
use lib.Dec.{leb, lit≤}
use Rattle.interval.specs.{declared.Interval.{Interval}, Operations.{Narrow}}
use Rattle.exact.specs.{Fraction.{whole, decimal, ◌+f◌, neg, ◌−f◌, ◌÷f◌}, Logarithm.{ln_of}, Reported.{ten, over, reported, AtMost, Reports}}
use Rattle.logarithm.specs.{Ends.{most, Inside, ln_ends}, Asked.{width, inside}}
use Rattle.logarithm.proofs.LnEnds.{ln_holds, ln_ordered, ln_narrow}

narrow_width : (i : Interval) → Narrow i 200 → AtMost width (reported (ten 9) i)
unfolding reported over ten decimal width ◌+f◌ neg ◌−f◌
narrow_width i h = record { apart = record { le = omega (arith, h.narrow) } }

pub right_ends : {p q : ℕ} → Inside p → Inside q → Reports (ln_of (whole p ÷f whole q)) (ten 9) (λ A. width) (ln_ends p q)
right_ends {p} {q} hp hq =
    record { ordered = (ln_ordered hp hq).ordered; holds = ln_holds hp hq; narrow = narrow_width (ln_ends p q) (ln_narrow hp hq (lit≤ tt)) }

pub inside_known : (n : ℕ) → inside n ≡ true → Inside n
unfolding inside
inside_known n h =
    let t = (and-eq-true_iff (leb 1 n) (leb n most)).0 h in record { low = leb-true 1 n t.0; high = leb-true n most t.1 }
