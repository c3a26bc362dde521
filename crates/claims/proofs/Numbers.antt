-- What follows from being one number, for the page.
use Rattle.numbers.proofs.OneNumber.{ends_together, held_overlap, one_fraction, above_across, below_trans}
use Rattle.claims.specs.Numbers.{OneNumber}

pub one_number : OneNumber
one_number =
    record {
      together = λ x e h. ends_together x.narrows e h;
      one_fraction = λ x p q. one_fraction x.narrows p q;
      meet = λ x p q. held_overlap x.narrows p q;
      across = λ x y d e h. above_across x y d e h;
      in_order_lem = below_trans;
    }
