use Rattle.whole.proofs.Bits.{back}
use Rattle.claims.proofs.Page.{page}
use Rattle.promises.proofs.ask_bytes_at.Goals as goal

pub returns : goal.returns
returns c =
    let a = c.hocsimbur_rows_at in rw (back a.result a.type_inv) (page.pointed a.ensures)
