-- `exponential::halve` meets its contract: the power of two is the least that is not below 2q in whole numbers.
use Rattle.exponential.proofs.Loops.{halvings_found}
use Rattle.exponential.proofs.halve.Goals as goal

pub returns : goal.returns
returns c =
    let p = c.next_power_of_two.ensures in
    let j = c.ilog2.ensures in
    halvings_found _ _ _ _ c.div_ceil.ensures p.power p.lower_bound p.upper_bound j.power_le j.next_power_gt
