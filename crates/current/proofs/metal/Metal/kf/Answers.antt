-- `kf` has the entry of the table for each number.
use Prim.Native.Nat.{ℕ, zero, suc, ◌≤◌}
use mathlib.Core.Path.{◌≡◌, refl}
use native.Mathlib.Omega.{arith}
use borrow.Author.Tests.{le-leb, lt-leb}
use Rattle.std.specs.Prelude.{None}
use Rattle.formulas.specs.Size.{constants, Kf}
use Rattle.current.specs.Metal.{constant_of}
use Rattle.current.proofs.metal.Metal.kf.Goals as goal

-- n is none of the numbers from 1 to k
abbrev NoneTo : ℕ → ℕ → Type 0
NoneTo n zero = Unit {0}
NoneTo n (suc k) = NoneTo n k × (n ≡ suc k → ⊥)

past : (n k : ℕ) → NoneTo n k → 1 ≤ n → suc k ≤ n
past n zero r l = l
past n (suc k) r l = let h = past n k r.0 l in let d = r.1 in omega arith

-- past the table
none : (n : ℕ) → (1 ≤ n → 12 ≤ n) → None ≡ constant_of n
unfolding constant_of
none zero h = refl
none (suc n) h = let l : 12 ≤ suc n = h (omega arith) in simp (le-leb 1 (suc n) (omega arith), lt-leb (suc n) 11 (omega arith))

pub returns-in-1 : goal.returns-in-1
unfolding constant_of Kf constants
returns-in-1 c = rw c.in-1.is

pub returns-in-2 : goal.returns-in-2
unfolding constant_of Kf constants
returns-in-2 c = rw c.in-2.is

pub returns-in-3 : goal.returns-in-3
unfolding constant_of Kf constants
returns-in-3 c = rw c.in-3.is

pub returns-in-4 : goal.returns-in-4
unfolding constant_of Kf constants
returns-in-4 c = rw c.in-4.is

pub returns-in-5 : goal.returns-in-5
unfolding constant_of Kf constants
returns-in-5 c = rw c.in-5.is

pub returns-in-6 : goal.returns-in-6
unfolding constant_of Kf constants
returns-in-6 c = rw c.in-6.is

pub returns-in-7 : goal.returns-in-7
unfolding constant_of Kf constants
returns-in-7 c = rw c.in-7.is

pub returns-in-8 : goal.returns-in-8
unfolding constant_of Kf constants
returns-in-8 c = rw c.in-8.is

pub returns-in-9 : goal.returns-in-9
unfolding constant_of Kf constants
returns-in-9 c = rw c.in-9.is

pub returns-in-10 : goal.returns-in-10
unfolding constant_of Kf constants
returns-in-10 c = rw c.in-10.is

pub returns-in-11 : goal.returns-in-11
unfolding constant_of Kf constants
returns-in-11 c = rw c.in-11.is

pub returns-in_default : goal.returns-in_default
returns-in_default c = none c.args.number (past _ 11 c.in_default.in_default-own.rest)
