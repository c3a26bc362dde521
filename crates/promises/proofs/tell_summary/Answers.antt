use Rattle.whole.proofs.Bits.{back}
use Rattle.claims.proofs.Page.{page}
use Rattle.promises.proofs.tell_summary.Goals as goal

pub returns : goal.returns
returns c =
    let a = c.hocsimbur_summary in rw (back a.result a.type_inv) (page.summary_in_c a.ensures)
