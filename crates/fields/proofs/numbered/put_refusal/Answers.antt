-- `put_refusal` writes its word and three numbers.
use Rattle.fields.specs.Refusal.{refused_text}
use Rattle.fields.proofs.numbered.put_refusal.Goals as goal

pub returns : goal.returns
unfolding refused_text
returns c = c.put_numbered.ensures
