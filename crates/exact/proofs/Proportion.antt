-- A multiple of a value against a quotient: where the dividend falls no faster than the multiple does, being above is kept by the greater
-- multiple.
use Prim.Native.Nat.{ℕ, ◌≤◌}
use Rattle.exact.specs.{Fraction.{Fraction, ◌≤f◌, ◌<f◌, ◌≈f◌, whole, ◌·f◌, inv, ◌÷f◌}, Ends.{Ends, ◌·e◌, ◌÷e◌}}
use Rattle.exact.specs.{Exact.{Exact, exactly, ◌·x◌, ◌÷x◌, Above}, Depth.{Consistent, Proper, Positive, PositiveAt, SameEnds}}
use Rattle.exact.proofs.Order.{refl≤, trans≤, refl≈, sym≈, trans≈, lt_of_lt_of_le, lt_of_le_of_lt, le_of_lt, not≤, not<}
use Rattle.exact.proofs.{Products.{mul_comm, mul_assoc, mul_left≤, cong·, mul<}, Quotients.{div≤}, Consistency.{proper_at}}
use Rattle.exact.proofs.KnownEnds.{quotient_ends_lem, scaled_ends_lem}

-- a (b c) is b (a c)
mul_exchange : (a b c : Fraction) → a ·f (b ·f c) ≈f b ·f (a ·f c)
mul_exchange a b c = trans≈ (sym≈ (mul_assoc a b c)) (trans≈ (cong· (mul_comm a b) (refl≈ c)) (mul_assoc b a c))

-- a (b / c) is (b a) / c
mul_quotient : (a b c : Fraction) → a ·f (b ÷f c) ≈f (b ·f a) ÷f c
unfolding ◌÷f◌
mul_quotient a b c = trans≈ (sym≈ (mul_assoc a b (inv c))) (cong· (mul_comm a b) (refl≈ (inv c)))

-- s and t go with the multiples p and q, and t / q is not above s / p
pub record Proportion (p s q t : Fraction) : Type 0 where
  pub first : whole 0 <f p
  pub second : whole 0 <f q
  pub low : whole 0 ≤f s
  pub high : whole 0 ≤f t
  pub cross : t ·f p ≤f s ·f q

module _ {p s q t : Fraction} (o : Proportion p s q t) where
  -- s / r < p m gives t / r < q m
  multiple_above : (m r : Fraction) → s ÷f r <f p ·f m → t ÷f r <f q ·f m
  multiple_above m r h =
      not≤ (λ l. not< (mul< o.second h)
      (trans≤ (mul_exchange q p m).to
      (trans≤ (mul_left≤ (le_of_lt o.first) l)
      (trans≤ (mul_quotient p t r).to (trans≤ (div≤ r o.cross) (mul_quotient q s r).fro)))))

  -- of pairs
  pair_above : {M R : Ends} (k : ℕ) → Proper M → Proper R → Positive R → (exactly s k ÷e R).upper <f (exactly p k ·e M).lower
      → (exactly t k ÷e R).upper <f (exactly q k ·e M).lower
  unfolding exactly
  pair_above {M} {R} k pm pr r h =
      let point : (x : Fraction) → Proper (exactly x k) = λ x. record { proper = refl≤ x } in
      let a = quotient_ends_lem (point s) pr o.low r in
      let b = scaled_ends_lem k (le_of_lt o.first) pm in
      let a' = quotient_ends_lem (point t) pr o.high r in
      let b' = scaled_ends_lem k (le_of_lt o.second) pm in
      lt_of_le_of_lt a'.uppers.to
      (lt_of_lt_of_le (multiple_above M.lower R.lower (lt_of_le_of_lt a.uppers.fro (lt_of_lt_of_le h b.lowers.to)))
      b'.lowers.fro)

  -- of exact values that have the ends of multiples of m at each depth
  pub proportion_above : {m r x y : Exact} → Consistent m → Consistent r → PositiveAt r
      → ((k : ℕ) → 3 ≤ k → SameEnds (x k) ((exactly p ·x m) k)) → ((k : ℕ) → 3 ≤ k → SameEnds (y k) ((exactly q ·x m) k))
      → Above x (exactly s ÷x r) → Above y (exactly t ÷x r)
  unfolding ◌·x◌ ◌÷x◌
  proportion_above cm cr pr e f a =
      let k = a.depth in
      let h = a.deep in
      record {
        depth = k;
        deep = h;
        above = lt_of_lt_of_le
            (pair_above k (proper_at cm h) (proper_at cr h) (pr.at k h) (lt_of_lt_of_le a.above (e k h).lowers.to))
            (f k h).lowers.fro;
      }
