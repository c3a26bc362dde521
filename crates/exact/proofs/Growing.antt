-- Functions of one argument, as roots and the logarithm: "of a pair runs from the lower end's lower to the upper end's upper".
-- Where the ends at a fraction grow with the fraction, the function keeps consistency, inclusion and what is held.
use Prim.Native.Nat.{ℕ, ◌≤◌}
use Rattle.exact.specs.{Fraction.{Fraction, ◌≤f◌, whole}, Ends.{Ends, minus_ends}, Exact.{Exact, Holds}}
use Rattle.exact.specs.Depth.{Consistent, Within, Proper}
use Rattle.exact.proofs.{Order.{trans≤}, Sums.{neg≤, neg_nonpos}}

-- neither end of B is below that of A
pub record Rises (A B : Ends) : Type 0 where
  pub lowers : A.lower ≤f B.lower
  pub uppers : A.upper ≤f B.upper

-- 0 and 0: a pair that rises from it is not negative
abbrev pub nought : Ends
nought = record { lower = whole 0; upper = whole 0 }

pub rises_minus : {A B : Ends} → Rises A B → Rises (minus_ends B) (minus_ends A)
unfolding minus_ends
rises_minus h = record { lowers = neg≤ h.uppers; uppers = neg≤ h.lowers }

pub rises_across : {A B : Ends} → Rises nought A → Rises nought B → Rises (minus_ends A) B
unfolding minus_ends
rises_across h k = record { lowers = neg_nonpos h.uppers k.lowers; uppers = neg_nonpos h.lowers k.uppers }

-- f of a pair
abbrev pub extended : (Fraction → Exact) → Exact → Exact
extended f x k = record { lower = (f (x k).lower k).lower; upper = (f (x k).upper k).upper }

-- where f may be applied, its ends grow with its argument and its depths do not contradict each other
pub record Growing (may : Fraction → Type 0) (f : Fraction → Exact) : Type 0 where
  pub onward : {q r : Fraction} → may q → q ≤f r → may r
  pub rises : {q r : Fraction} → may q → q ≤f r → (k : ℕ) → Rises (f q k) (f r k)
  pub agree : {q : Fraction} → may q → Consistent (f q)

module _ {may : Fraction → Type 0} {f : Fraction → Exact} (g : Growing may f) where
  pub consistent_extended : {x : Exact} → ((k : ℕ) → 3 ≤ k → may (x k).lower) → Consistent x → Consistent (extended f x)
  consistent_extended {x} m c =
      record {
        agree = λ j k hj hk.
            let l = c.agree j k hj hk in
            trans≤ (g.rises (m j hj) l j).lowers ((g.agree (g.onward (m j hj) l)).agree j k hj hk);
      }

  pub within_extended : (x : Exact) (k : ℕ) {A : Ends} → may A.lower → Proper (x k) → Within (x k) A
      → Within (extended f x k) (extended f (λ _. A) k)
  within_extended x k m p w =
      record { low = (g.rises m w.low k).lowers; high = (g.rises (g.onward m (trans≤ w.low p.proper)) w.high k).uppers }

  -- by pairs around the ends of f at the ends of A
  pub within_parts : (x : Exact) (k : ℕ) {A B C : Ends} → may A.lower → Proper (x k) → Within (x k) A
      → Within (f A.lower k) B → Within (f A.upper k) C → Within (extended f x k) (record { lower = B.lower; upper = C.upper })
  within_parts x k m p w b c =
      let v = within_extended x k m p w in
      record { low = trans≤ b.low v.low; high = trans≤ v.high c.high }

  pub holds_extended : {A B : Ends} {x : Exact} → may A.lower → ((k : ℕ) → 3 ≤ k → may (x k).lower) → Holds A x
      → ((k : ℕ) → 3 ≤ k → B.lower ≤f (f A.lower k).upper) → ((k : ℕ) → 3 ≤ k → (f A.upper k).lower ≤f B.upper)
      → Holds B (extended f x)
  holds_extended ma mx h l r =
      record {
        left = λ k d. trans≤ (l k d) (g.rises ma (h.left k d) k).uppers;
        right = λ k d. trans≤ (g.rises (mx k d) (h.right k d) k).lowers (r k d);
      }
