-- `Interval::wide_product` multiplies the lower ends, rounded down, and the upper ends, rounded up.
use mathlib.Core.Path.{◌≡◌, sym, ap, ◌∙◌}
use borrow.Author.Rules.{rules}
use lib.IntN.{pos}
use mir.Facts.{to_z-of_z}
use Rattle.whole.{specs.Wide.{WideFits}, proofs.{Bits.{read, natural_cast}, WideProduct.{floor_size, ceil_size, wide_less}}}
use Rattle.interval.specs.{declared.Interval.{Interval}, Operations.{natural}, Wide.{Wide}}
use Rattle.interval.proofs.{Held.{Held}, WidePairs.{wide_is}}
use Rattle.interval.proofs.Interval.wide_product.Goals as goal
use Rattle.interval.proofs.Interval.wide_product.Goals.{Start}

module _ (s : Start) where
  held : Held s.args.self × Held s.args.other
  held = search rules

  wide : Wide s.args.self s.args.other s.args.den
  wide = s.requires

  -- what the locals hold
  self_lower : read s.args.self.lower ≡ pos wide.k
  unfolding natural
  self_lower = to_z-of_z held.0.0 ∙ ap (λ (i : Interval). i.lower) wide.first

  self_upper : read s.args.self.upper ≡ pos wide.l
  unfolding natural
  self_upper = to_z-of_z held.0.1 ∙ ap (λ (i : Interval). i.upper) wide.first

  other_lower : read s.args.other.lower ≡ pos wide.x
  unfolding natural
  other_lower = to_z-of_z held.1.0 ∙ ap (λ (i : Interval). i.lower) wide.second

  other_upper : read s.args.other.upper ≡ pos wide.y
  unfolding natural
  other_upper = to_z-of_z held.1.1 ∙ ap (λ (i : Interval). i.upper) wide.second

  lower_fits : WideFits wide.k wide.x s.args.den
  lower_fits = wide_less wide.first_order wide.second_order wide.fits

pub overflow_cast-self : goal.overflow_cast-self
overflow_cast-self c = natural_cast (wide (goal.at.overflow_cast-self c).Start).k (held (goal.at.overflow_cast-self c).Start).0.0 (self_lower (goal.at.overflow_cast-self c).Start)

pub overflow_cast-other : goal.overflow_cast-other
overflow_cast-other c = natural_cast (wide (goal.at.overflow_cast-other c).Start).x (held (goal.at.overflow_cast-other c).Start).1.0 (other_lower (goal.at.overflow_cast-other c).Start)

pub floor-requires : goal.floor-requires
floor-requires c =
    rw (self_lower (goal.at.floor-requires c).Start, other_lower (goal.at.floor-requires c).Start) (lower_fits (goal.at.floor-requires c).Start)

pub overflow_cast-self-2 : goal.overflow_cast-self-2
overflow_cast-self-2 c = natural_cast (wide (goal.at.overflow_cast-self-2 c).Start).l (held (goal.at.overflow_cast-self-2 c).Start).0.1 (self_upper (goal.at.overflow_cast-self-2 c).Start)

pub overflow_cast-other-2 : goal.overflow_cast-other-2
overflow_cast-other-2 c =
    natural_cast (wide (goal.at.overflow_cast-other-2 c).Start).y (held (goal.at.overflow_cast-other-2 c).Start).1.1 (other_upper (goal.at.overflow_cast-other-2 c).Start)

pub ceil-requires : goal.ceil-requires
ceil-requires c =
    rw (self_upper (goal.at.ceil-requires c).Start, other_upper (goal.at.ceil-requires c).Start) (wide (goal.at.ceil-requires c).Start).fits

pub natural-requires : goal.natural-requires
natural-requires c = (
  rw (c.floor.ensures, self_lower (goal.at.natural-requires c).Start, other_lower (goal.at.natural-requires c).Start) (floor_size (lower_fits (goal.at.natural-requires c).Start)),
  rw (c.ceil.ensures, self_upper (goal.at.natural-requires c).Start, other_upper (goal.at.natural-requires c).Start) (ceil_size (wide (goal.at.natural-requires c).Start).fits),
)

pub returns : goal.returns
returns c =
    c.natural.ensures
    ∙ rw (c.floor.ensures, c.ceil.ensures, self_lower (goal.at.returns c).Start, self_upper (goal.at.returns c).Start, other_lower (goal.at.returns c).Start, other_upper (goal.at.returns c).Start) (sym (wide_is (wide (goal.at.returns c).Start)))
