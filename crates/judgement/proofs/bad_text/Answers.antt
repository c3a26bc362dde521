-- `judgement::bad_text` meets its contract, by the laws of proofs/Whole.antt.
use Rattle.judgement.proofs.{Whole.{text_empty, text_long, text_last}}
use Rattle.judgement.proofs.bad_text.Goals as goal

pub returns-then-n-eq0 : goal.returns-then-n-eq0
returns-then-n-eq0 c = text_empty _ c.if-n-eq0.true

pub returns-then-n-gt-BYTES : goal.returns-then-n-gt-BYTES
returns-then-n-gt-BYTES c = text_long _ c.if-n-eq0.false c.if-n-gt-BYTES.true

pub returns : goal.returns
returns c = text_last _ c.if-n-eq0.false c.if-n-gt-BYTES.false
