-- The layer effect: its ends are natural numbers, and Q lies between them.
use Prim.Native.Nat.{ℕ, ◌+◌, ◌*◌, ◌/◌, ◌≤◌, ◌<◌}
use mathlib.Core.{Path.{◌≡◌, ap}, Bool.{cond}, Logic.{◌⊎◌, inl, inr, ⊎_elim}}
use native.Mathlib.{Omega.{arith}, Nat.{mul-le-mul_right}}
use lib.{Dec.{eqb}, IntN.{ℤ, pos, ◌-ℤ◌}}
use borrow.Author.Tests.{ne_eqb}
use Rattle.whole.{specs.Whole.{floor_z, ceil_z, ceil_div}, proofs.Signed.{difference_is, floor_below, floor_above}}
use Rattle.whole.proofs.Rounding.{ceil_div_by, ceil_above, ceil_below, floor_is, ceil_is}
use Rattle.interval.specs.{Operations.{natural, point, size, difference_of, outward_of}, Span.{Span}}
use Rattle.interval.proofs.{Sizes.{size_point, size_difference}, Span.{span_natural, span_point, span_wider, floor≤ceil, round_near}}
use Rattle.case.specs.{declared.Case.{Case}, Bounds.{Bounds, Bare, Layered}}
use Rattle.tolerable.specs.Ends.{layered, layer_ends}

-- A − (B − C) / d, rounded outward, is (A d + C − B) / d rounded outward
module _ (A B C d n : ℕ) (p : 0 < d) (e : n + B ≡ A * d + C) where
  gap : ℤ
  gap = pos B -ℤ pos C

  lower_is : pos A -ℤ ceil_z gap d ≡ pos (n / d)
  unfolding gap
  lower_is =
      let z = ceil_z gap d in
      let s = difference_is (pos A) z in
      let t = difference_is (pos B) (pos C) in
      floor_is (pos A -ℤ z) n d
      (omega (arith, ap (λ (i : ℕ). i * d) s, t, ceil_above gap p, e))
      (omega (arith, ap (λ (i : ℕ). i * d) s, t, ceil_below gap p, e))

  upper_is : pos A -ℤ floor_z gap d ≡ pos (ceil_div n d)
  unfolding gap
  upper_is =
      let z = floor_z gap d in
      let s = difference_is (pos A) z in
      let t = difference_is (pos B) (pos C) in
      ceil_is (pos A -ℤ z) n d p
      (omega (arith, ap (λ (i : ℕ). i * d) s, t, floor_below gap p, e))
      (omega (arith, ap (λ (i : ℕ). i * d) s, t, floor_above gap p, e))

  pub gap_is : difference_of (point (pos A)) (outward_of (difference_of (point (pos B)) (point (pos C))) d) ≡ natural (n / d) (ceil_div n d)
  unfolding difference_of outward_of point natural gap
  gap_is = λ i. record { lower = lower_is i; upper = upper_is i }

-- ---- the ends

-- 1000 Q (2 thick + 90)
abbrev pub weighed : Case → ℕ
weighed c = 2000 * (c.layer * c.thick) + 90000 * c.soil

module _ (c : Case) where
  pub layered_is : layered c ≡ natural (weighed c / (2 * c.thick + 90)) (ceil_div (weighed c) (2 * c.thick + 90))
  unfolding layered
  layered_is = gap_is (1000 * c.layer) (90000 * c.layer) (90000 * c.soil) (2 * c.thick + 90) (weighed c) (omega arith) (omega arith)

-- a definition by bare soil or layer
pub by_surface : {A : Type 0} (P : A → Type 0) {c : Case} {x y : A} → Bare c ⊎ Layered c → (Bare c → P x) → (Layered c → P y)
    → P (cond (eqb c.layer 0) x y)
by_surface P (inl b) f g = rw b.layer (f b)
by_surface P {c} (inr l) f g = rw (ne_eqb c.layer 0 (λ e. omega (arith, l.layer.low))) (g l)

pub layer_span : {c : Case} → Bounds c → Span (layer_ends c) 0 10000000 1
unfolding layer_ends
layer_span {c} b =
    by_surface (λ i. Span i 0 10000000 1) b.surface
    (λ z. span_wider (span_point (1000 * c.soil) {l = 0} {h = 10000000} (omega arith) (omega (arith, b.soil.high))) (omega arith)
    (omega arith) (omega arith))
    (λ l.
    let d : ℕ = 2 * c.thick + 90 in
    let p : 0 < d = omega arith in
    let n : ℕ = weighed c in
    rw (layered_is c)
    (span_natural (n / d) (ceil_div n d) (omega arith) (floor≤ceil n n d p (omega arith))
    (ceil_div_by n p (omega (arith, b.soil.high, mul-le-mul_right c.thick l.layer.high)))
    (round_near n n d 0 p (omega arith))))

-- ---- sizes

pub layer_high : {c : Case} → Bounds c → c.layer ≤ 10000
layer_high b = ⊎_elim (λ (z : Bare _). omega (arith, z.layer)) (λ (l : Layered _). l.layer.high) b.surface

pub gap_size : {c : Case} → Bounds c → size (difference_of (point (pos (90000 * c.layer))) (point (pos (90000 * c.soil)))) ≤ 1350000000
gap_size {c} b =
    omega (
      arith,
      size_difference (point (pos (90000 * c.layer))) (point (pos (90000 * c.soil))),
      size_point (90000 * c.layer),
      size_point (90000 * c.soil),
      layer_high b,
      b.soil.high,
    )
