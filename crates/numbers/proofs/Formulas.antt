-- Formulas of a case within its bounds are one number each: factor, current, lengths, tolerable voltages, resistance. Each is found by the
-- shape of its formula, from the parts that are bound before the search: numbers, and what a divisor or the argument of a root or logarithm
-- has to be, positive.
use Prim.Native.Nat.{ℕ, ◌≤◌}
use native.Mathlib.Omega.{arith}
use Rattle.exact.{specs.{Fraction.{whole, ◌÷f◌}, Logarithm.{ln_of}}, proofs.{Order.{whole_pos}, Products.{mul-pos}, Quotients.{inv_pos}}}
use Rattle.exact.proofs.Positive.{positive_exactly, positive_at_least}
use Rattle.exact.proofs.Quantity.{quantity_exactly, quantity_sum, quantity_product, quantity_quotient}
use Rattle.case.specs.{declared.Case.{Case}, Bounds.{Bounds}}
use Rattle.formulas.specs.{Lengths.{equal_counts, √area, s, nb, n, Ki}, Decrement.{Ta, Df}, Current.{IG}}
use Rattle.formulas.specs.{Tolerable.{root_time, tolerable_touch, tolerable_step}, Resistance.{√20, resistance, potential_rise}}
use Rattle.formulas.proofs.{Positive.{h_pos, LT_pos}, Decrement.{tf_pos, quantity_turns, quantity-Ta, under_root_least}}
use Rattle.formulas.proofs.{Conductors.{by_place, quantity_divisor, quantity_ratio, quantity_s}, Quantities.{one}}
use Rattle.formulas.proofs.Consistent.{q20, quantity_root_time}
use Rattle.numbers.specs.Number.{Number}
use Rattle.numbers.proofs.Rules.{number_exactly, number_root_exactly, number_ln_of, numbers}

-- the logarithm, asked alone
pub number_logarithm : (p q : ℕ) → 1 ≤ p → 1 ≤ q → Number (ln_of (whole p ÷f whole q))
unfolding ◌÷f◌
number_logarithm p q h k = number_ln_of (mul-pos (whole_pos h) (inv_pos (whole q)))

number_√20 : Number √20
unfolding √20
number_√20 = number_root_exactly 2 _ (omega arith)

module _ {c : Case} (b : Bounds c) where
  -- ---- the decrement factor and the grid current

  number-Ta : Number (Ta c)
  unfolding Ta
  number-Ta = let p = (quantity_turns b).positive in search numbers

  pub number-Df : Number (Df c)
  unfolding Df
  number-Df =
      let ratio = number-Ta in
      let t = positive_exactly (tf_pos b) in
      let p = (quantity-Ta b).positive in
      let u = positive_at_least (whole_pos (omega arith)) (under_root_least b) in
      let two : 1 ≤ 2 = omega arith in
      search numbers depth 10

  pub number_IG : Number (IG c)
  unfolding IG
  number_IG = let f = number-Df in search numbers

  -- ---- lengths and the number of conductors

  number_√area : Number (√area c)
  unfolding √area
  number_√area = number_root_exactly 2 _ (omega arith)

  number_s : Number (s c)
  unfolding s
  number_s = by_place Number (equal_counts c) (λ e. number_exactly _) (λ e. number_√area)

  number_nb : Number (nb c)
  unfolding nb
  number_nb =
      let r = number_√area in
      let d = (quantity_divisor b).positive in
      let p = (quantity_ratio b).positive in
      let two : 1 ≤ 2 = omega arith in
      search numbers

  pub number_n : Number (n c)
  unfolding n
  number_n = let m = number_nb in by_place Number (equal_counts c) (λ e. number_exactly _) (λ e. search numbers)

  pub number-Ki : Number (Ki c)
  unfolding Ki
  number-Ki = let m = number_n in search numbers

  -- ---- tolerable voltages

  number_root_time : Number (root_time c)
  unfolding root_time
  number_root_time = number_root_exactly 2 _ (omega arith)

  pub number_tolerable_touch : Number (tolerable_touch c)
  unfolding tolerable_touch
  number_tolerable_touch = let r = number_root_time in let p = (quantity_root_time b).positive in search numbers

  pub number_tolerable_step : Number (tolerable_step c)
  unfolding tolerable_step
  number_tolerable_step = let r = number_root_time in let p = (quantity_root_time b).positive in search numbers

  -- ---- resistance

  pub number_resistance : Number (resistance c)
  unfolding resistance
  number_resistance =
      let r = number_s in
      let f = number_√20 in
      let l = positive_exactly (LT_pos b) in
      let p = (quantity_s b).positive in
      let deepened = (quantity_sum one (quantity_quotient (quantity_product (quantity_exactly (h_pos b)) q20) (quantity_s b))).positive in
      let spread = (quantity_product (quantity_s b) q20).positive in
      search numbers depth 10

  pub number_rise : Number (potential_rise c)
  unfolding potential_rise
  number_rise = let i = number_IG in let r = number_resistance in search numbers
