-- `case::parts::rods_place` meets its contract.
use Rattle.case.specs.{declared.Form.TheVariants.{Present, Former}, Parts.{rods_place}}
use Rattle.case.proofs.{Findings.{rods_place_lem}}
use Rattle.case.proofs.parts.rods_place.Goals as goal

pub returns-in-Present : goal.returns-in-Present
unfolding rods_place
returns-in-Present c = rw c.in-Present.is (rods_place_lem Present)

pub returns-in-Former : goal.returns-in-Former
unfolding rods_place
returns-in-Former c = rw c.in-Former.is (rods_place_lem Former)
