-- The conductor size, defined by squares, is the smallest whole number that I·Kf·√t is not above. f is the factor's reported upper end.
use Prim.Native.Nat.{ℕ, zero, suc, ◌+◌, ◌*◌, ◌^◌, ◌≤◌, ◌<◌}
use mathlib.Core.{Path.{◌≡◌, refl, ap}, Bool.{Bool, true, false, cond, not}, Logic.{◌⊎◌, inl, inr}}
use native.Mathlib.{Omega.{arith}, Decide.{dec_le}, Nat.{add-zero, zero-add, eq-or-lt_of_le, mul-le-mul, lt_of_le_of_lt, mul-pos}}
use lib.{IntN.{pos}, ListN.{drop}, Dec.{T, lit≤, lit<, leb→le, le→leb, nleb→lt}}
use Rattle.exact.specs.{Fraction.{Fraction, ◌<f◌, ◌≈f◌, whole, decimal, ◌·f◌, top}, Exact.{exactly, Above, AtOrBelow}, Root.{root}}
use Rattle.exact.{specs.{Reported.{Scale, over}, Depth.{Consistent}}, proofs.{Powers.{square}, Order.{le_of_lt}}}
use Rattle.exact.proofs.{Consistency.{consistent_exactly}, Roots.{consistent_root}}
use Rattle.exact.proofs.AboveRoot.{above_root, not_above_root, above_multiple, not_above_multiple}
use Rattle.case.specs.{declared.Case.{Case}, Bounds.{Between, Bounds}}
use Rattle.formulas.proofs.Tables.{inside, entry_inside}
use Rattle.formulas.specs.Size.{constants, Kf, smallest, duty, enough, required, size}

-- ---- the smallest number that passes a test

module _ (test : ℕ → Bool) where
  pub smallest_passes : (first tries : ℕ) → T (test (first + tries)) → T (test (smallest test first tries))
  unfolding smallest
  smallest_passes first zero h = rw (add-zero first) at h
  smallest_passes first (suc tries) h =
      go (test first) refl (smallest_passes (suc first) tries (rw (step first tries) at h))
    where
      step : (a b : ℕ) → a + suc b ≡ suc a + b
      step a b = omega arith

      go : (b : Bool) → test first ≡ b → T (test (smallest test (suc first) tries))
          → T (test (cond b first (smallest test (suc first) tries)))
      go true e k = rw e tt
      go false e k = k

  pub smallest_least : (first tries m : ℕ) → first ≤ m → m < smallest test first tries → T (not (test m))
  unfolding smallest
  smallest_least first zero m l u = absurd (omega arith)
  smallest_least first (suc tries) m l u =
      go (test first) refl u (eq-or-lt_of_le l) (λ n v. smallest_least (suc first) tries m n v)
    where
      go : (b : Bool) → test first ≡ b → m < cond b first (smallest test (suc first) tries) → (first ≡ m) ⊎ (first < m)
          → (suc first ≤ m → m < smallest test (suc first) tries → T (not (test m))) → T (not (test m))
      go true e v w next = absurd (omega arith)
      go false e v (inl f) next = rw (← f, e) tt
      go false e v (inr n) next = next n v

-- ---- the size by squares

square_grows : (n : ℕ) → n ≤ n ^ 2 * 10 ^ 31
square_grows zero = omega arith
square_grows (suc n) = omega (arith, square (suc n))

module _ (c : Case) (f : ℕ) where
  pub size_enough : duty c f ^ 2 * c.wire ≤ size c f ^ 2 * 10 ^ 31
  unfolding size enough
  size_enough =
      leb→le _ _ (smallest_passes (enough c f) 0 (duty c f ^ 2 * c.wire)
      (rw zero-add (le→leb _ _ (square_grows (duty c f ^ 2 * c.wire)))))

  pub size_least : (m : ℕ) → m < size c f → m ^ 2 * 10 ^ 31 < duty c f ^ 2 * c.wire
  unfolding size enough
  size_least m l = nleb→lt _ _ (smallest_least (enough c f) 0 (duty c f ^ 2 * c.wire) m (omega arith) l)

-- ---- the size against the exact value

module _ (c : Case) (f : ℕ) (d : 0 < duty c f) where
  -- m over I·Kf, and I·Kf
  share : ℕ → Fraction
  share m = over (pos (m * 10 ^ 14)) (record { count = duty c f; positive = d })

  load : Fraction
  load = decimal (c.fault * f) 12 ·f decimal (Kf c.metal) 2

  load_share : (m : ℕ) → load ·f share m ≈f whole m
  unfolding load share over whole decimal ◌·f◌ duty
  load_share m = omega arith

  load_pos : whole 0 <f load
  unfolding load whole decimal ◌·f◌ duty
  load_pos = omega (arith, d)

  -- the squares of m over I·Kf and of √t
  squares : (m : ℕ) → (m * 10 ^ 14) ^ 2 * 10 ^ 3 ≡ m ^ 2 * 10 ^ 31
  squares m = omega (arith, square m, square (m * 10 ^ 14))

  top_wire : top (decimal c.wire 3) ≡ c.wire
  unfolding top decimal
  top_wire = omega arith

  low : (m : ℕ) → duty c f ^ 2 * c.wire ≤ m ^ 2 * 10 ^ 31
      → duty c f ^ 2 * top (decimal c.wire 3) ≤ (m * 10 ^ 14) ^ 2 * (decimal c.wire 3).den
  unfolding decimal
  low m h = rw top_wire (omega (arith, squares m))

  high : (m : ℕ) → m ^ 2 * 10 ^ 31 < duty c f ^ 2 * c.wire
      → (m * 10 ^ 14) ^ 2 * (decimal c.wire 3).den < duty c f ^ 2 * top (decimal c.wire 3)
  unfolding decimal
  high m h = rw top_wire (omega (arith, squares m))

  unit : Scale
  unit = record { count = duty c f; positive = d }

  time : Fraction
  time = decimal c.wire 3

  consistent_time : Consistent (root 2 (exactly time))
  consistent_time = consistent_root 2 (omega arith) (consistent_exactly time)

  pub size_not_below : AtOrBelow (required c f) (exactly (whole (size c f)))
  unfolding required load share unit time
  size_not_below =
      not_above_multiple load (whole (size c f)) (share (size c f)) consistent_time (le_of_lt load_pos) (load_share (size c f)).to
      (λ k l. not_above_root 2 time (size c f * 10 ^ 14) unit (omega arith) (low (size c f) (size_enough c f)) k)

  pub size_smallest : (m : ℕ) → m < size c f → Above (required c f) (exactly (whole m))
  unfolding required load share unit time
  size_smallest m l =
      above_multiple load (whole m) (share m) consistent_time load_pos (load_share m).fro
      (above_root 2 time (m * 10 ^ 14) unit (omega arith) (high m (size_least c f m l)))

-- ---- the bounds of Kf and of I·Kf, for a factor from 1 to √5

pub kf_bounds : {metal : ℕ} → Between 1 metal 11 → Between 700 (Kf metal) 3005
unfolding Kf constants inside
kf_bounds {metal = zero} h = absurd (omega (arith, h.low))
kf_bounds {metal = suc m} h = entry_inside 700 3005 (drop 1 constants) m tt (omega (arith, h.high))

too_large : (d w u k : ℕ) → d ≤ u → w ≤ 3000 → u * u * 3000 ≤ k → k < d ^ 2 * w → ⊥
too_large d w u k p q h l = omega (arith, mul-le-mul (mul-le-mul p p) q, h, l, ap (λ t. t * w) (square d))

module _ {c : Case} (b : Bounds c) {f : ℕ} (r : Between 1000000000 f 2236068000) where
  pub duty_pos : 0 < duty c f
  unfolding duty
  duty_pos =
      mul-pos (mul-pos {m = c.fault} {n = f} (omega (arith, b.fault.low)) (omega (arith, r.low)))
      (omega (arith, (kf_bounds b.metal).low))

  pub duty_bound : duty c f < 10 ^ 18
  unfolding duty
  duty_bound = lt_of_le_of_lt (mul-le-mul (mul-le-mul b.fault.high r.high) (kf_bounds b.metal).high) (lit< tt)

  -- a size above 10^6 would be too small for its own square
  pub size_bound : size c f ≤ 1000000
  size_bound = go (dec_le (size c f) 1000000)
    where
      go : Dec (size c f ≤ 1000000) → size c f ≤ 1000000
      go (yes h) = h
      go (no h) =
          let l : 1000000 < size c f = omega arith in
          let d : duty c f ≤ 10 ^ 18 = omega (arith, duty_bound) in
          absurd (too_large (duty c f) c.wire (10 ^ 18) _ d b.wire.high (lit≤ tt) (size_least c f 1000000 l))
