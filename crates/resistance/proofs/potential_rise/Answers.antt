-- `potential_rise` multiplies the resistance by the current; the product is wide.
use Rattle.resistance.specs.Ends.{rise_ends}
use Rattle.resistance.proofs.{Rise.{rise_wide}}
use Rattle.resistance.proofs.potential_rise.Goals as goal

pub wide_product-requires : goal.wide_product-requires
wide_product-requires c = rw (c.requires.ohms_value, c.requires.current_value) (rise_wide c.requires.bounds)

pub returns : goal.returns
unfolding rise_ends
returns c = rw (c.wide_product.ensures, c.requires.ohms_value, c.requires.current_value)
