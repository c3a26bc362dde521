-- A fraction times a value: the ends times the fraction's count.
use Prim.Native.Nat.{ℕ, ◌*◌}
use mathlib.Core.Path.{◌≡◌, ap}
use native.Mathlib.Omega.{arith}
use lib.{Dec.{lit≤}, IntN.{ℤ, pos, ◌*ℤ◌}}
use Rattle.whole.{specs.Signed.{plus, minus}, proofs.Signed.{scale_plus, scale_minus}}
use Rattle.interval.specs.{Operations.{scaled_of}, declared.Interval.{Interval}}
use Rattle.exact.specs.{Fraction.{Fraction, ◌≤f◌, ◌≈f◌, whole, ◌·f◌}, Exact.{Exact, exactly, ◌·x◌}, Depth.{work_depth, Consistent}}
use Rattle.exact.{specs.Reported.{Scale, over, reported}, proofs.{Order.{trans≤, refl≈, sym≈, trans≈}, Products.{mul_left≤, cong·}}}
use Rattle.exact.proofs.{Consistency.{proper_at}, Inclusion.{within_trans, within_same}, KnownEnds.{scaled_ends_lem}}
use Rattle.enclosure.specs.Enclosure.{Encloses}

over_multiple : (z : ℤ) (k : ℕ) (u v w : Scale) → w.count ≡ v.count * u.count → over (z *ℤ pos k) w ≈f over (pos k) v ·f over z u
unfolding over ◌·f◌
over_multiple z k u v w e =
    omega (
      arith,
      ap (λ t. t * (v.count * u.count)) (scale_plus z k),
      ap (λ t. t * (v.count * u.count)) (scale_minus z k),
      ap (λ t. plus z * k * t) e,
      ap (λ t. minus z * k * t) e,
    )

over_nonneg : (k : ℕ) (v : Scale) → whole 0 ≤f over (pos k) v
unfolding over whole
over_nonneg k v = record { le = omega arith }

-- the ends times a fraction, rounded outward
pub encloses_rounded : {x : Exact} {u w : Scale} {a b : Interval} (q : Fraction) → whole 0 ≤f q
    → over b.lower w ≤f q ·f over a.lower u
    → q ·f over a.upper u ≤f over b.upper w → Consistent x → Encloses x u a → Encloses (exactly q ·x x) w b
unfolding reported ◌·x◌
encloses_rounded q n low high c e =
    record {
      within =
          within_trans (within_same (scaled_ends_lem work_depth n (proper_at c (lit≤ tt))))
          (record { low = trans≤ low (mul_left≤ n e.within.low); high = trans≤ (mul_left≤ n e.within.high) high });
    }

-- q is k units of v, x lies in u, the product in w
pub encloses_multiple : {x : Exact} {u : Scale} {a : Interval} {q : Fraction} (k : ℕ) (v w : Scale) → w.count ≡ v.count * u.count
    → q ≈f over (pos k) v → Consistent x → Encloses x u a → Encloses (exactly q ·x x) w (scaled_of a k)
unfolding scaled_of
encloses_multiple {x} {u} {a} {q} k v w s h c e =
    let m : (z : ℤ) → over (z *ℤ pos k) w ≈f q ·f over z u = λ z. trans≈ (over_multiple z k u v w s) (cong· (sym≈ h) (refl≈ (over z u))) in
    encloses_rounded q (trans≤ (over_nonneg k v) h.fro) (m a.lower).to (m a.upper).fro c e
