-- The ends of the decrement factor are right: they hold it and are at most 1,000 billionths apart.
use Prim.Native.Nat.{ℕ, ◌+◌, ◌≤◌}
use native.Mathlib.Omega.{arith}
use lib.Dec.{lit≤}
use Rattle.interval.specs.Operations.{natural}
use Rattle.exact.specs.{Fraction.{decimal, ◌+f◌, neg, ◌−f◌}, Reported.{ten, over, reported, AtMost, Reports}}
use Rattle.enclosure.{specs.Enclosure.{Encloses}, proofs.Reporting.{reports}}
use Rattle.case.specs.{declared.Case.{Case}, Bounds.{Bounds}}
use Rattle.formulas.{specs.{Decrement.{Df}, Width.{billionths, factor_width}}, proofs.Decrement.{consistent-Df}}
use Rattle.decrement.specs.Ends.{df_ends}
use Rattle.decrement.proofs.{Enclosed.{factor_encloses}, Spans.{exponent_span}, Widths.{square_span, factor_span}}

within_allowed : (a b : ℕ) → b ≤ a + 500 → AtMost (factor_width (reported billionths (natural a b))) (reported billionths (natural a b))
unfolding factor_width billionths reported ten over natural decimal ◌+f◌ ◌−f◌ neg
within_allowed a b h = record { apart = record { le = omega arith } }

module _ {c : Case} (b : Bounds c) where
  pub encloses-Df : Encloses (Df c) billionths (df_ends c)
  unfolding billionths
  encloses-Df = factor_encloses b (lit≤ tt) (lit≤ tt) (lit≤ tt) (exponent_span b) (square_span b)

  pub factor_reports : Reports (Df c) billionths factor_width (df_ends c)
  factor_reports =
      let s = factor_span b in
      reports factor_width (consistent-Df b) encloses-Df (rw s.is (within_allowed s.a s.b s.near))
