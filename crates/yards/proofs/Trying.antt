-- The search for the first safe yard: what is left to try, and what each turn makes of it. No code here.
use Prim.Native.Nat.{ℕ, zero, suc, ◌+◌, ◌*◌, ◌-◌, ◌≤◌, ◌<◌}
use mathlib.Core.{Path.{◌≡◌, refl, sym, ap, ◌∙◌}, Bool.{Bool, true, false, cond}, List.{List, [], ◌∷◌, ◌++◌, map}}
use native.Mathlib.{Numerals.{add-one}, Omega.{arith}}
use lib.ListN.{length, length-append, length-map}
use Rattle.case.specs.{declared.Case.{Case}, Check.{count_from}}
use Rattle.yards.specs.declared.FewestLines.{FewestLines, TheVariants.{Found, None}}
use Rattle.yards.specs.{Yards.{fits, yard, rod_counts, yards_of, yards_over, yards_from, yards, is_safe}, Fewest.{first_safe, fewest}}

-- ---- the list of yards

count_next : (first end : ℕ) → first < end → count_from first (end - first) ≡ first ∷ count_from (first + 1) (end - (first + 1))
unfolding count_from
count_next first end h = rw (add-one, the_count)
  where
    the_count : end - first ≡ suc (end - suc first)
    the_count = omega arith

count_end : (first end : ℕ) → end ≤ first → count_from first (end - first) ≡ []
unfolding count_from
count_end first end h = rw (none)
  where
    none : end - first ≡ 0
    none = omega arith

module _ (c : Case) (side : ℕ) where
  pub lines_next : (lines : ℕ) → lines ≤ 25 → yards_from c side lines ≡ yards_of c side lines 0 ++ yards_from c side (lines + 1)
  unfolding yards_from yards_over
  lines_next lines h = rw (count_next lines 26 (omega arith))

  pub lines_skipped : (lines : ℕ) → lines ≤ 25 → fits side lines ≡ false → yards_from c side lines ≡ yards_from c side (lines + 1)
  unfolding yards_of
  lines_skipped lines h f = lines_next lines h ∙ rw f

  pub lines_end : (lines : ℕ) → 26 ≤ lines → yards_from c side lines ≡ []
  unfolding yards_from yards_over
  lines_end lines h = rw (count_end lines 26 h)

  pub rods_next : (lines k : ℕ) (more : List Case) → k ≤ 10 → fits side lines ≡ true
      → yards_of c side lines k ++ more ≡ yard c side lines (4 * k) ∷ (yards_of c side lines (k + 1) ++ more)
  unfolding yards_of rod_counts
  rods_next lines k more h f = rw (f, count_next k 11 (omega arith))

  pub rods_end : (lines k : ℕ) (more : List Case) → 11 ≤ k → yards_of c side lines k ++ more ≡ more
  unfolding yards_of rod_counts
  rods_end lines k more h = rw (count_end k 11 h) (nothing (fits side lines))
    where
      nothing : (b : Bool) → cond b [] [] ++ more ≡ more
      nothing true = refl
      nothing false = refl

  -- ---- at most 264 yards

  count_length : (first n : ℕ) → length (count_from first n) ≡ n
  unfolding count_from
  count_length first zero = refl
  count_length first (suc n) = ap suc (count_length (suc first) n)

  of_most : (lines : ℕ) → length (yards_of c side lines 0) ≤ 11
  unfolding yards_of rod_counts
  of_most lines = go (fits side lines)
    where
      go : (b : Bool) → length (cond b (map (yard c side lines) (rod_counts 0)) []) ≤ 11
      go true = simp (length-map, count_length) (omega arith)
      go false = omega arith

  over_most : (ns : List ℕ) → length (yards_over c side ns) ≤ 11 * length ns
  unfolding yards_over
  over_most [] = omega arith
  over_most (n ∷ ns) = simp length-append (omega (arith, of_most n, over_most ns))

  pub yards_most : length (yards c side) ≤ 264
  unfolding yards yards_from
  yards_most = omega (arith, over_most (count_from 2 24), count_length 2 24)

-- ---- the search

-- some yards are left after those tried, none of which was safe
pub record Trying (c : Case) (side tried : ℕ) (answer : FewestLines) (left : List Case) : Type 0 where
  pub rest : fewest c side ≡ first_safe tried left
  pub none : answer ≡ None tried
  pub count : tried + length left ≡ length (yards c side)

pub trying_start : (c : Case) (side : ℕ) → Trying c side 0 (None 0) (yards_from c side 2)
unfolding fewest yards
trying_start c side = record { rest = refl; none = refl; count = omega arith }

module _ {c : Case} {side tried : ℕ} {answer : FewestLines} where
  pub trying_few : {left : List Case} → Trying c side tried answer left → tried ≤ 264
  trying_few a = omega (arith, a.count, yards_most c side)

  pub trying_end : {left : List Case} → Trying c side tried answer left → left ≡ [] → answer ≡ fewest c side
  unfolding first_safe
  trying_end a e = a.none ∙ sym (a.rest ∙ rw e)

  module _ {left : List Case} {y : Case} {ys : List Case} (a : Trying c side tried answer left) (e : left ≡ y ∷ ys) where
    pub trying_found : is_safe y ≡ true → Found y.across y.rods (tried + 1) ≡ fewest c side
    unfolding first_safe
    trying_found s = sym (a.rest ∙ rw (e, s, ← add-one))

    pub trying_next : is_safe y ≡ false → Trying c side (tried + 1) (None (tried + 1)) ys
    unfolding first_safe
    trying_next s = record { rest = a.rest ∙ rw (e, s, ← add-one); none = refl; count = omega (arith, a.count, ap length e) }
