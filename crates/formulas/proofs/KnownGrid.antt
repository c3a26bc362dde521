-- What the grids of the yards computed by hand (§4.10) have in common, at numbers: they differ in season, soil, counts and rods alone.
use Prim.Native.Nat.{ℕ}
use mathlib.Core.Bool.{◌&&◌}
use lib.Dec.{T}
use Rattle.exact.specs.{Fraction.{Fraction, whole}, Ends.{Ends, ◌·e◌, ◌÷e◌}, Exact.{Exact, exactly, ◌·x◌, ◌÷x◌}, Logarithm.{ln}, Pi.{π}}
use Rattle.formulas.specs.{Lengths.{ρ, D, h, d, Lr, Lx, Ly, Lc, Lp, area, LR, LT, na}, Current.{IG}, Mesh.{G, Kh}, Step.{LS}}
use Rattle.formulas.specs.{Resistance.{√20}, Yards.{grid}}
use Rattle.formulas.proofs.Known.{Known, digits, positive, inside, both_ends, rounded, known_exactly, known_product, known_quotient}
use Rattle.formulas.proofs.{KnownFunctions.{known_root, known_ln_up, known_π, tests}, KnownFactor.{factor_500_10}}

-- q·x·k·i/l by pairs around q·x, q·x·k, q·x·k·i and the whole: a mesh or step voltage, ρ·Km·Ki·IG/LM or ρ·Ks·Ki·IG/LS
module _ {x k i l : Exact} {X K I L : Ends} (q : Fraction) (A B C D : Ends) (a : Known x X) (b : Known k K) (c : Known i I)
    (d : Known l L) where
  pub known_voltage : T (inside (both_ends q ·e X) A) → T (inside (A ·e K) B) → T (inside (B ·e I) C) → T (positive L && inside (C ÷e L) D)
      → Known (exactly q ·x x ·x k ·x i ÷x l) D
  known_voltage t u v w = known_quotient D (known_product C (known_product B (known_product A (known_exactly q) a t) b u) c v) d w

-- the lengths of a case, opened by name
unfoldable pub lengths : ℕ
unfolding ρ D h d Lr Lx Ly Lc Lp area LR LT na LS G
lengths = 0

-- 2π
pub turn : Known (exactly (whole 2) ·x π) (digits 15 6283185307179586 6283185307179588)
unfolding tests
turn = known_product (digits 15 6283185307179586 6283185307179588) (known_exactly _) known_π tt

-- √20
pub root_20 : Known √20 (digits 12 4472135954999 4472135955000)
unfolding tests √20
root_20 = known_root _ 4472135954999 4472135955000 (known_exactly _) tt

module _ (season soil across along rods rodlen place : ℕ) where
  -- IG
  pub current : Known (IG (grid season soil across along rods rodlen place)) (digits 12 1957957255297800 1957957255301616)
  unfolding tests IG
  current =
      known_product (digits 12 1957957255297800 1957957255301616) (known_exactly _)
      (factor_500_10 (grid season soil across along rods rodlen place)) tt

  -- Kh
  pub kh : Known (Kh (grid season soil across along rods rodlen place)) (digits 12 1224744871391 1224744871392)
  unfolding tests lengths Kh
  kh = known_root _ 1224744871391 1224744871392 (known_exactly _) tt

  -- ln G
  pub log_argument : Known (ln (exactly (G (grid season soil across along rods rodlen place)))) (digits 12 6571283042359 6571283042361)
  unfolding tests lengths
  log_argument =
      known_ln_up 9 (digits 12 6571283042359 6571283042361)
      (rounded (digits 12 714285714285714 714285714285715) (known_exactly _) tt) tt
