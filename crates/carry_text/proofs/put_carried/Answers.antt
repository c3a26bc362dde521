-- `put_carried` keeps what the conversion wrote, or puts the line of its refusal: proofs/CarriedTexts.antt.
use Rattle.carry_text.proofs.{CarriedTexts.{carried_put, carried_refused}}
use Rattle.carry_text.proofs.put_carried.Goals as goal

pub returns-in-Ok : goal.returns-in-Ok
returns-in-Ok c =
    carried_put c.args.form c.args.s.now c.carry_to.ensures c.requires c.in-Ok.is

pub returns-in-Err : goal.returns-in-Err
returns-in-Err c =
    carried_refused c.args.form c.args.s.now c.carry_to.ensures c.requires c.in-Err.is c.put_refusal.ensures
