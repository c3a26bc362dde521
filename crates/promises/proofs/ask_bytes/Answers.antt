use Rattle.whole.proofs.Bits.{back}
use Rattle.claims.proofs.Page.{page}
use Rattle.promises.proofs.ask_bytes.Goals as goal

pub returns : goal.returns
returns c =
    let a = c.hocsimbur_rows in rw (back a.result a.type_inv) (page.in_bytes a.ensures)
