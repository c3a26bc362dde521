-- §5.1–§5.6: 'the exact value' is one number: what follows for every value that is one (`Number` of numbers/specs/Number.antt: its depths
-- do not contradict each other, and its ends come together). Without it 'holds' would not name one value, and 'at or below' would not be an
-- order.
use Rattle.std.specs.Prelude.{ℕ, ◌≤◌}
use Rattle.exact.specs.{Fraction.{Fraction, ◌≤f◌, ◌<f◌, ◌≈f◌, whole}, Ends.{Ends}, Exact.{Exact, Holds, Above, AtOrBelow}}
use Rattle.numbers.specs.Number.{Near, Number}

-- a fraction as both ends of a pair
abbrev pub alone : Fraction → Ends
alone p = record { lower = p; upper = p }

pub record OneNumber : Type 0 where
  -- the ends come as near as one asks
  pub together : {x : Exact} → Number x → (e : Fraction) → whole 0 <f e → (n : ℕ) × ((k : ℕ) → n ≤ k → Near e (x k).lower (x k).upper)
  -- at most one fraction lies between them at every depth
  pub one_fraction : {x : Exact} {p q : Fraction} → Number x → Holds (alone p) x → Holds (alone q) x → p ≈f q
  -- two pairs that hold the value meet
  pub meet : {x : Exact} {A B : Ends} → Number x → Holds A x → Holds B x → A.lower ≤f B.upper
  -- what two depths show, one depth shows
  pub across : {x y : Exact} {j k : ℕ} → Number x → Number y → 3 ≤ j → 3 ≤ k → (y k).upper <f (x j).lower → Above x y
  -- "at or below" is an order
  pub in_order_lem : {x y z : Exact} → Number x → Number y → Number z → AtOrBelow x y → AtOrBelow y z → AtOrBelow x z
