-- The ends of ln (p/q) for q ≤ p enclose the exact ones at the depth of code: m ln 2 and ln r, each rounded outward.
use Prim.Native.Nat.{ℕ, ◌+◌, ◌≤◌}
use mathlib.Core.Path.{refl}
use native.Mathlib.Omega.{arith}
use lib.Dec.{lit<}
use Rattle.interval.specs.Operations.{natural}
use Rattle.exact.specs.{Fraction.{Fraction, ◌≤f◌, whole, ◌+f◌, ◌·f◌, ◌÷f◌}, Logarithm.{argument, terms, ln_near, ln_of}}
use Rattle.exact.{specs.{Reported.{ten, over, reported}, Depth.{work_depth, Within}}, proofs.Order.{refl≤, trans≤, refl≈, nonneg}}
use Rattle.exact.proofs.{Sums.{mono+, add-zero}, Products.{mul_left≤}, Inclusion.{within_trans, within_same}, LogArgument.{argument_nonneg}}
use Rattle.exact.proofs.{LogUp.{up_ends as series_ends}, Logarithm.{ln_at_least_one}, Computed.{within_ln2}}
use Rattle.exact.proofs.Rounding.{units, Toward, from_below, from_above, toward_trans, toward_same, toward_sum, units_zero, units_sum}
use Rattle.exact.proofs.Rounding.{rounded}
use Rattle.logarithm.specs.Series.{term_count, terms_of}
use Rattle.logarithm.specs.Ends.{most, halvings_of, argument_of, ln2, doublings, near_of, end_of, up_ends, close_ends}
use Rattle.logarithm.proofs.{Ratio.{ratio_low_lem, halvings_small}, Rounding.{binary, billionths_are, multiple_is}}
use Rattle.logarithm.proofs.{SeriesEnds.{terms_toward}, Rest.{rest_below, terms_below}, Width.{end_close}}
use Rattle.logarithm.proofs.ArgumentEnds.{reduced, reduced_least, argument_third, argument_low, argument_high, argument_size}

-- m ln 2
doublings_toward : (up m : ℕ) {x : Fraction} → Toward up (units (ten 12) (ln2 + up)) x
    → Toward up (units (ten 9) (doublings up m)) (whole m ·f x)
unfolding doublings
doublings_toward up m h =
    toward_trans (rounded (multiple_is m (ln2 + up)) up)
    (record { down = λ e. mul_left≤ (nonneg m) (h.down e); upward = λ l. mul_left≤ (nonneg m) (h.upward l) })

-- ln r; upward, one unit more
near_toward : {x : Fraction} → whole 0 ≤f x → (up z : ℕ) → Toward up (units binary z) x
    → Toward up (units (ten 9) (near_of up z)) (terms x term_count +f units binary up)
unfolding near_of
near_toward nx up z h =
    let s = terms_of up z term_count in
    toward_trans (rounded (billionths_are (s + up)) up)
    (toward_trans (toward_same up (units_sum binary s up)) (toward_sum (terms_toward z nx h term_count) (toward_same up (refl≈ _))))

end_toward : {x y : Fraction} → whole 0 ≤f x → (up m z : ℕ) → Toward up (units (ten 12) (ln2 + up)) y → Toward up (units binary z) x
    → Toward up (units (ten 9) (end_of up m z)) (whole m ·f y +f (terms x term_count +f units binary up))
unfolding end_of
end_toward nx up m z h k =
    toward_trans (toward_same up (units_sum (ten 9) (doublings up m) (near_of up z)))
    (toward_sum (doublings_toward up m h) (near_toward nx up z k))

ln2_low : units (ten 12) ln2 ≤f (ln_near (whole 2) work_depth).lower
unfolding reported
ln2_low = within_ln2.low

ln2_high : (ln_near (whole 2) work_depth).upper ≤f units (ten 12) (ln2 + 1)
unfolding reported
ln2_high = within_ln2.high

billionths≤ : {a b : ℕ} → a ≤ b → units (ten 9) a ≤f units (ten 9) b
unfolding over ten
billionths≤ l = omega arith

module _ {p q : ℕ} (hq : 1 ≤ q) (l : q ≤ p) where
  abbrev m : ℕ
  m = halvings_of p q

  abbrev x : Fraction
  x = argument (reduced p q)

  nx : whole 0 ≤f x
  nx = argument_nonneg (reduced_least hq l)

  end_below : units (ten 9) (end_of 0 m (argument_of p q))
      ≤f whole m ·f (ln_near (whole 2) work_depth).lower +f (ln_near (reduced p q) work_depth).lower
  unfolding ln_near
  end_below =
      trans≤ ((end_toward nx 0 m (argument_of p q) (from_below ln2_low) (from_below (argument_low hq l))).down refl)
      (mono+ (refl≤ _) (trans≤ (mono+ (terms_below nx (argument_third hq l)) (units_zero binary).to) (add-zero (terms x work_depth)).to))

  end_above : whole m ·f (ln_near (whole 2) work_depth).upper +f (ln_near (reduced p q) work_depth).upper
      ≤f units (ten 9) (end_of 1 m (argument_of p q + 1))
  unfolding ln_near
  end_above =
      trans≤ (mono+ (refl≤ _) (rest_below nx (argument_third hq l)))
      ((end_toward nx 1 m (argument_of p q + 1) (from_above ln2_high) (from_above (argument_high hq l))).upward (lit< tt))

  pub close_encloses : Within (ln_of (whole p ÷f whole q) work_depth) (reported (ten 9) (close_ends p q))
  unfolding close_ends natural reported halvings_of
  close_encloses =
      rw (ln_at_least_one (ratio_low_lem hq l))
      (within_trans (within_same (series_ends (ratio_low_lem hq l) work_depth)) (record { low = end_below; high = end_above }))

  pub up_encloses : p ≤ most → Within (ln_of (whole p ÷f whole q) work_depth) (reported (ten 9) (up_ends p q))
  unfolding up_ends close_ends natural reported
  up_encloses k =
      let c = end_close (argument_of p q) (argument_size hq l) (halvings_small hq l k) in
      within_trans close_encloses (record { low = refl≤ _; high = billionths≤ c.high })
