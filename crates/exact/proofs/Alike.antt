-- Operations on pairs with the same ends have the same ends; a quotient is a product by the inverse pair. All depends on one test: a pair
-- that has each outcome among its points includes the combination.
use Rattle.exact.specs.{Fraction.{Fraction, ◌≤f◌, ◌≈f◌, ◌+f◌, ◌·f◌, inv, ◌÷f◌}, Ends.{Ends, combine, ◌+e◌, ◌·e◌, ◌÷e◌}}
use Rattle.exact.specs.Depth.{Within, Proper, Positive, SameEnds}
use Rattle.exact.proofs.{Order.{lt_of_lt_of_le}, Outcomes.{Outcomes, lower≤, ≤upper, lower_of, upper_of}, Sums.{cong+}}
use Rattle.exact.proofs.{Products.{cong·}, Quotients.{inv≤}, Divisors.{inv_cong}, Points.{Point, point_same}}
use Rattle.exact.proofs.{Inclusion.{same_within}, KnownEnds.{same_sym, same_trans}}

-- ---- outcomes as points

module _ (op : Fraction → Fraction → Fraction) (A B : Ends) where
  -- each outcome is a point of the combination
  pub outcomes : Outcomes (λ o. Point o (combine op A B)) op A B
  outcomes =
      let l = lower≤ op A B in
      let h = ≤upper op A B in
      record {
        first = record { low = l.first; high = h.first };
        second = record { low = l.second; high = h.second };
        third = record { low = l.third; high = h.third };
        fourth = record { low = l.fourth; high = h.fourth };
      }

  -- a pair that has each outcome among its points includes the combination
  pub includes : {C : Ends} → Outcomes (λ o. Point o C) op A B → Within (combine op A B) C
  includes {C} e =
      record {
        low =
            lower_of op A B (λ o. C.lower ≤f o)
            (record { first = e.first.low; second = e.second.low; third = e.third.low; fourth = e.fourth.low });
        high =
            upper_of op A B (λ o. o ≤f C.upper)
            (record { first = e.first.high; second = e.second.high; third = e.third.high; fourth = e.fourth.high });
      }

-- ---- operations on pairs with the same ends

module _ (op : Fraction → Fraction → Fraction) (keeps : (a b c d : Fraction) → a ≈f b → c ≈f d → op a c ≈f op b d) where
  combine_into : {A A' B B' : Ends} → SameEnds A A' → SameEnds B B' → Within (combine op A B) (combine op A' B')
  combine_into {A} {A'} {B} {B'} s t =
      let e = outcomes op A' B' in
      includes op A B
      (record {
        first = point_same (keeps _ _ _ _ s.lowers t.lowers) e.first;
        second = point_same (keeps _ _ _ _ s.lowers t.uppers) e.second;
        third = point_same (keeps _ _ _ _ s.uppers t.lowers) e.third;
        fourth = point_same (keeps _ _ _ _ s.uppers t.uppers) e.fourth;
      })

  combine_same : {A A' B B' : Ends} → SameEnds A A' → SameEnds B B' → SameEnds (combine op A B) (combine op A' B')
  combine_same s t = same_within (combine_into s t) (combine_into (same_sym s) (same_sym t))

module _ {A A' B B' : Ends} (s : SameEnds A A') (t : SameEnds B B') where
  pub sum_same : SameEnds (A +e B) (A' +e B')
  unfolding ◌+e◌
  sum_same = combine_same ◌+f◌ (λ a b c d e f. cong+ e f) s t

  pub product_same : SameEnds (A ·e B) (A' ·e B')
  unfolding ◌·e◌
  product_same = combine_same ◌·f◌ (λ a b c d e f. cong· e f) s t

-- ---- divisors

-- one over a positive pair
abbrev pub inverse_ends : Ends → Ends
inverse_ends B = record { lower = inv B.upper; upper = inv B.lower }

pub inverse_proper : {B : Ends} → Proper B → Positive B → Proper (inverse_ends B)
inverse_proper pb p = record { proper = inv≤ p.positive pb.proper }

-- a quotient is a product by the inverse pair
pub quotient_product : (A B : Ends) → SameEnds (A ÷e B) (A ·e inverse_ends B)
unfolding ◌÷e◌ ◌·e◌ ◌÷f◌
quotient_product A B =
    let q = outcomes ◌÷f◌ A B in
    let p = outcomes ◌·f◌ A (inverse_ends B) in
    same_within
    (includes ◌÷f◌ A B (record { first = p.second; second = p.first; third = p.fourth; fourth = p.third }))
    (includes ◌·f◌ A (inverse_ends B) (record { first = q.second; second = q.first; third = q.fourth; fourth = q.third }))

pub quotient_same : {A A' B B' : Ends} → Proper B → Positive B → SameEnds A A' → SameEnds B B' → SameEnds (A ÷e B) (A' ÷e B')
quotient_same {A} {A'} {B} {B'} pb p s t =
    let low = p.positive in
    same_trans (quotient_product A B)
    (same_trans
    (product_same s
    (record { lowers = inv_cong (lt_of_lt_of_le low pb.proper) t.uppers; uppers = inv_cong low t.lowers }))
    (same_sym (quotient_product A' B')))
