-- How wide a product is: two products of ends differ by at most one size times the other width, twice.
use Prim.Native.Nat.{ℕ, suc, ◌+◌, ◌*◌, ◌≤◌}
use native.Mathlib.{Omega.{arith}, Nat.{mul-le-mul_left, mul-le-mul_right}}
use lib.{IntN.{ℤ, pos, negsuc, nat_abs, ◌*ℤ◌, *ℤ_comm}, Signed.{◌≤ℤ◌, ≤ℤ_refl}}
use Rattle.whole.{specs.Signed.{plus, minus}, proofs.Signed.{mul_plus, mul_minus, le_halves}}
use Rattle.interval.specs.{Operations.{size, Ordered, Narrow}, declared.Interval.{Interval}}
use Rattle.interval.proofs.{Corners.{Corners}, Sizes.{size_lower, size_upper}}

-- c ≤ z + w
pub record Near (w : ℕ) (c z : ℤ) : Type 0 where
  pub near : plus c + minus z ≤ plus z + minus c + w

-- x · (y − y') is at most s · n
slide : (x y y' : ℤ) (s n : ℕ) → nat_abs x ≤ s → Near n y y' → Near n y' y → Near (s * n) (x *ℤ y) (x *ℤ y')
slide (pos p) y y' s n h k k' =
    let f : ℤ = pos p in
    let size = mul-le-mul_right n h in
    record { near = omega (arith, mul_plus f y, mul_plus f y', mul_minus f y, mul_minus f y', mul-le-mul_left p k.near, size) }
slide (negsuc p) y y' s n h k k' =
    let f : ℤ = negsuc p in
    let size = mul-le-mul_right n h in
    record { near = omega (arith, mul_plus f y, mul_plus f y', mul_minus f y, mul_minus f y', mul-le-mul_left (suc p) k'.near, size) }

swap : {w : ℕ} (a b c d : ℤ) → Near w (a *ℤ b) (c *ℤ d) → Near w (b *ℤ a) (d *ℤ c)
swap a b c d h = rw (*ℤ_comm b a, *ℤ_comm d c) h

-- x is an end of an interval from l, at most m wide and of size s
record End (s m : ℕ) (l x : ℤ) : Type 0 where
  small : nat_abs x ≤ s
  from : l ≤ℤ x
  to : Near m x l

-- two ends of one interval
between : {s m : ℕ} {l x y : ℤ} → End s m l x → End s m l y → Near m x y
between h k = record { near = omega (arith, h.to.near, le_halves k.from) }

-- any two products of ends
apart : {s t m n : ℕ} {l r x x' y y' : ℤ} → End s m l x → End s m l x' → End t n r y → End t n r y'
    → Near (s * n + t * m) (x *ℤ y) (x' *ℤ y')
apart {s} {t} {m} {n} {x = x} {x'} {y} {y'} hx hx' hy hy' =
    let first = slide x y y' s n hx.small (between hy hy') (between hy' hy) in
    let second = swap y' x y' x' (slide y' x x' t m hy'.small (between hx hx') (between hx' hx)) in
    record { near = omega (arith, first.near, second.near) }

module _ {a : Interval} {m : ℕ} (o : Ordered a) (h : Narrow a m) where
  lower_end : End (size a) m a.lower a.lower
  lower_end = record { small = size_lower a; from = ≤ℤ_refl a.lower; to = record { near = omega arith } }

  upper_end : End (size a) m a.lower a.upper
  upper_end = record { small = size_upper a; from = o.ordered; to = record { near = omega (arith, h.narrow) } }

module _ {a b : Interval} {m n : ℕ} (oa : Ordered a) (ob : Ordered b) (h : Narrow a m) (k : Narrow b n) where
  all : (P : ℤ → Type 0) → ((x y : ℤ) → End (size a) m a.lower x → End (size b) n b.lower y → P (x *ℤ y)) → Corners P a b
  all P f =
      let al = lower_end oa h in
      let au = upper_end oa h in
      let bl = lower_end ob k in
      let bu = upper_end ob k in
      record { first = f _ _ al bl; second = f _ _ al bu; third = f _ _ au bl; fourth = f _ _ au bu }
