-- Roots: by powers of the ends, and square roots by what `root_ends` gives.
use Prim.Native.Nat.{ℕ, ◌+◌, ◌*◌, ◌^◌, ◌≤◌, ◌<◌}
use mathlib.Core.Path.{◌≡◌}
use native.Mathlib.{Omega.{arith}, Nat.{mul-le-mul_right}}
use lib.{Dec.{lit≤}, IntN.{pos}}
use Rattle.interval.{specs.{Operations.{natural, point}, Root.{RootEnds}, declared.Interval.{Interval}}, proofs.Natural.{point_natural}}
use Rattle.exact.specs.{Fraction.{Fraction, top}, Exact.{Exact, exactly}, Depth.{work_depth}, Root.{root}, Reported.{Scale, over, reported}}
use Rattle.exact.proofs.{Powers.{square}, Inclusion.{within_refl}, Roots.{root_within}}
use Rattle.enclosure.specs.Enclosure.{Encloses}

-- the numerator of a count
top_count : (n : ℕ) (v : Scale) → top (over (pos n) v) ≡ n
unfolding top over
top_count n v = omega arith

-- the n-th root of what lies between a and b of v, in a unit u that the depth's is a part of
pub encloses_root : (n : ℕ) {x : Exact} (u : Scale) {v : Scale} (a b lo hi m : ℕ) → 1 ≤ n → u.count * m ≡ 10 ^ work_depth
    → lo ^ n * v.count ≤ u.count ^ n * a → u.count ^ n * b < hi ^ n * v.count
    → Encloses x v (natural a b) → Encloses (root n x) u (natural lo hi)
unfolding natural reported over
encloses_root n {x} u {v} a b lo hi m h fits low high e =
    record {
      within =
          root_within n u lo hi {A = reported v (natural a b)} h (rw (top_count a v) low) x work_depth m fits
          (rw (top_count b v) high) e.within;
    }

-- of a fraction, by its own numbers
pub encloses_root_of : (n : ℕ) (q : Fraction) (u : Scale) (lo hi m : ℕ) → 1 ≤ n → u.count * m ≡ 10 ^ work_depth
    → lo ^ n * q.den ≤ u.count ^ n * top q → u.count ^ n * top q < hi ^ n * q.den → Encloses (root n (exactly q)) u (natural lo hi)
unfolding natural exactly
encloses_root_of n q u lo hi m h fits low high =
    record {
      within = root_within n u lo hi {A = exactly q work_depth} h low (exactly q) work_depth m fits high (within_refl (exactly q work_depth));
    }

-- ---- square roots: t is u² · n / v rounded down, and i has the root of t and the next number

pub encloses_sqrt : {x : Exact} (u : Scale) {v : Scale} {t : ℕ} {i : Interval} (n m : ℕ) → u.count * m ≡ 10 ^ work_depth
    → t * v.count ≤ u.count * u.count * n → u.count * u.count * n < (t + 1) * v.count
    → RootEnds t i → Encloses x v (point (pos n)) → Encloses (root 2 x) u i
encloses_sqrt u {v} {t} n m fits low high r e =
    let s = r.root in
    rw r.ends
    (encloses_root 2 u n n s (s + 1) m (lit≤ tt) fits
    (rw (square s, square u.count) (omega (arith, mul-le-mul_right v.count r.is_root_lem.low)))
    (rw (square (s + 1), square u.count) (omega (arith, mul-le-mul_right v.count r.is_root_lem.high)))
    (rw point_natural at e))

-- where the division leaves no remainder
pub encloses_sqrt_even : {x : Exact} (u : Scale) {v : Scale} {t : ℕ} {i : Interval} (n m : ℕ) → u.count * m ≡ 10 ^ work_depth
    → t * v.count ≡ u.count * u.count * n → RootEnds t i → Encloses x v (point (pos n)) → Encloses (root 2 x) u i
encloses_sqrt_even u {v} n m fits even r e = encloses_sqrt u n m fits (omega arith) (omega (arith, v.positive)) r e
