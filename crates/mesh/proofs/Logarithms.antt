-- The span of ln G, from the ends of ln 25 and ln 65,536.
use Prim.Native.Nat.{ℕ, ◌+◌, ◌≤◌}
use mathlib.Core.Path.{◌≡◌, ◌∙◌}
use native.Mathlib.{Omega.{arith}, Nat.{le_trans}}
use lib.{Dec.{lit≤, lit<}, IntN.{pos}, Signed.{◌≤ℤ◌}}
use Rattle.whole.proofs.Choice.{le_pos}
use Rattle.interval.specs.{Operations.{natural}, Span.{Span}}
use Rattle.logarithm.specs.Series.{square_of, power_of, term_of, terms_of}
use Rattle.logarithm.specs.Ends.{gap, Inside, halvings_of, argument_of, doublings, near_of, end_of, up_ends, ln_ends}
use Rattle.logarithm.proofs.{KnownHalvings.{up_by, ln_up_lem}, Growth.{ln_grows}, LnEnds.{up_tight}}
use Rattle.case.specs.{declared.Case.{Case}, Bounds.{Bounds}}
use Rattle.mesh.specs.Factor.{argument_top, argument_bottom, argument_log}
use Rattle.mesh.proofs.Argument.{argument_low, argument_high, top_inside, bottom_inside}

inside : (n : ℕ) → 1 ≤ n → n ≤ 65536 → Inside n
inside n l h = record { low = l; high = le_trans h (lit≤ tt) }

ln_25 : ln_ends 25 1 ≡ natural 3218875824 3218875830
unfolding square_of power_of term_of terms_of doublings near_of end_of
ln_25 = ln_up_lem 25 1 (lit≤ tt) ∙ up_by 4 25 (lit≤ tt) (lit≤ tt) (lit< tt)

ln_65536 : ln_ends 65536 1 ≡ natural 11090354888 11090354894
unfolding square_of power_of term_of terms_of doublings near_of end_of
ln_65536 = ln_up_lem 65536 1 (lit≤ tt) ∙ up_by 16 65536 (lit≤ tt) (lit≤ tt) (lit< tt)

pub argument_span : {c : Case} → Bounds c → Span (argument_log c) 3218000000 11091000000 11
unfolding argument_log up_ends natural
argument_span {c} b =
    let p = argument_top c in
    let q = argument_bottom c in
    let hp = top_inside b in
    let hq = bottom_inside b in
    let above : q ≤ p = omega (arith, argument_low b) in
    let t = up_tight hp hq above in
    let one = inside 1 (lit≤ tt) (lit≤ tt) in
    let from : pos 3218875824 ≤ℤ (up_ends p q).upper =
    rw (ln_25, ln_up_lem p q above) at (ln_grows (inside 25 (lit≤ tt) (lit≤ tt)) one hp hq (omega (arith, argument_low b))) in
    let to : (up_ends p q).lower ≤ℤ pos 11090354894 =
    rw (ln_65536, ln_up_lem p q above) at (ln_grows hp hq (inside 65536 (lit≤ tt) (lit≤ tt)) one (omega (arith, argument_high b))) in
    record {
      a = end_of 0 (halvings_of p q) (argument_of p q);
      b = end_of 0 (halvings_of p q) (argument_of p q) + gap;
      is = ln_up_lem p q above;
      from = omega (arith, le_pos from, t.narrow.narrow);
      order = le_pos t.ordered.ordered;
      to = omega (arith, le_pos to, t.narrow.narrow);
      near = omega (arith, t.narrow.narrow);
    }
