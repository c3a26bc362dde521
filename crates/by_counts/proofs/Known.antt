-- An entry holds by one computed test.
use Prim.Native.Nat.{ℕ, zero, suc, ◌+◌, ◌≤◌}
use mathlib.Core.{Path.{◌≡◌, sym, ◌∙◌, ap}, Bool.{Bool}, List.{List, [], ◌∷◌}}
use native.Mathlib.{Omega.{arith}, Decide.{dec_le}}
use lib.Dec.{T, eqb}
use Rattle.whole.specs.Whole.{ceil_div}
use Rattle.interval.{specs.Operations.{natural, minus_of}, proofs.Rules.{Rule, ◌≼◌, kept, Kept, lits}}
use Rattle.exact.specs.{Fraction.{choose, top}, Exponential.{least_from, doublings}, Reported.{ten, over}}
use Rattle.logarithm.specs.{Series.{square_of, power_of, term_of, terms_of}, Ends.{doublings as turns, near_of, end_of as log_end}}
use Rattle.exponential.specs.Ends.{halvings_of, argument_of, nested_of, series_of, inverse_of, squared_of, end_of}
use Rattle.case.specs.Bounds.{Between}
use Rattle.effective_number.specs.Counts.{Counts, spacings, half_perimeter, meshes}
use Rattle.effective_number.proofs.{Table.{newton, root, root_at, nb_low, nb_high, n_low, n_high}, NumberSpans.{n_is}}
use Rattle.conductors.{specs.Weights.{roots, root_of}, proofs.Table.{halved, ln_low, ln_high}}
use Rattle.by_counts.specs.{declared.Entry.{Entry}, Entries.{ends_of, Holds, Sorted}}
use Rattle.by_counts.proofs.Computed.{spread_low, spread_high, exp_low, exp_high, less_of, more_of, inner_low, inner_high, few_of, many_of}
use Rattle.by_counts.proofs.Computed.{spread_is, inner_is, half_is}

-- ---- the rules

-- the lower end and the width give x and y
abbrev give : (low width x y : ℕ) → List Rule → List Rule
give low width x y more = (low ≼ x) ∷ (x ≼ low) ∷ (low + width ≼ y) ∷ (y ≼ low + width) ∷ more

-- both are counts
abbrev inside : ℕ → ℕ → List Rule → List Rule
inside a b more = (2 ≼ a) ∷ (a ≼ 25) ∷ (2 ≼ b) ∷ (b ≼ 25) ∷ more

-- from n's ends l and h, and those of the exponent of the half power
entry_rules_by : (t : Bool) (r l h x y : ℕ) → Entry → List Rule
entry_rules_by t r l h x y e =
    give e.0 e.1 l h
    (give e.2 e.3 (spread_low l) (spread_high h)
    (give e.4 e.5 (inner_low t r l h) (inner_high t r l h) (give e.6 e.7 (exp_low y) (exp_high x y) [])))

entry_rules_of : (t : Bool) (r l h : ℕ) → Entry → List Rule
entry_rules_of t r l h e = entry_rules_by t r l h (few_of l) (many_of h) e

pub entry_rules : ℕ → ℕ → Entry → List Rule
entry_rules a b e = inside a b (entry_rules_of (eqb a b) (root_of a) (n_low a b) (n_high a b) e)

-- ---- what they show

same : {low x y : ℕ} (width : ℕ) → low ≤ x → x ≤ low → low + width ≤ y → y ≤ low + width → ends_of low width ≡ natural x y
same {low} {x} {y} width a b c d =
    let e : low ≡ x = omega arith in
    let f : low + width ≡ y = omega arith in
    rw (f, e)

module _ {a b : ℕ} {e : Entry} where
  shown : Kept (entry_rules a b e) → Holds a b e
  unfolding entry_rules entry_rules_of entry_rules_by
  shown kept =
      let k = kept.at in
      let h : Counts a b = record { across = record { low = k 0; high = k 1 }; along = record { low = k 2; high = k 3 } } in
      record {
        number = same e.1 (k 4) (k 5) (k 6) (k 7) ∙ sym (n_is h);
        spread = ap minus_of (same e.3 (k 8) (k 9) (k 10) (k 11)) ∙ sym (spread_is h);
        inner = same e.5 (k 12) (k 13) (k 14) (k 15) ∙ sym (inner_is h);
        half = same e.7 (k 16) (k 17) (k 18) (k 19) ∙ sym (half_is h);
      }

-- what the test computes with, opened by name
unfoldable pub computed : ℕ
unfolding newton root halved ln_low ln_high root_at nb_low nb_high n_low n_high spacings half_perimeter meshes ceil_div choose dec_le least_from
    square_of power_of term_of terms_of turns near_of log_end halvings_of doublings over ten top argument_of nested_of series_of inverse_of squared_of
    end_of roots root_of spread_low spread_high exp_low exp_high less_of more_of inner_low inner_high few_of many_of entry_rules entry_rules_of
    entry_rules_by
computed = 0

pub known : {n a b : ℕ} {e : Entry} → n ≡ a → T (kept (entry_rules a b e)) → Holds n b e
known p t = rw p (shown (lits t))

-- ---- what is left of a match

-- n is none of the k numbers from 2 on
abbrev pub NoneOf : ℕ → ℕ → Type 0
NoneOf n zero = Unit {0}
NoneOf n (suc k) = NoneOf n k × (n ≡ 2 + k → ⊥)

past : (n k : ℕ) → 2 ≤ n → NoneOf n k → 2 + k ≤ n
past n zero h r = h
past n (suc k) h r = let l = past n k h r.0 in let d = r.1 in omega arith

pub last : (k : ℕ) {n : ℕ} → Between 2 n (2 + k) → NoneOf n k → n ≡ 2 + k
last k {n} b r = omega (arith, past n k b.low r, b.high)

-- ---- the row of the larger count

pub rowed : {low high k : ℕ} → high ≡ k → Sorted low high → Between 2 low k
rowed e p = record { low = p.from; high = rw e at p.order }

pub last_rowed : {low high : ℕ} → Sorted low high → Between 2 low 25
last_rowed p = record { low = p.from; high = omega (arith, p.order, p.to) }

pub larger : {low high : ℕ} → Sorted low high → Between 2 high 25
larger p = record { low = omega (arith, p.from, p.order); high = p.to }
