-- `put_bytes` copies the text over the part of the buffer that is as long.
use Rattle.writing.proofs.Filling.{part_put}
use Rattle.writing.proofs.put_bytes.Goals as goal

pub returns : goal.returns
returns c = part_put c.copy_from_slice.ensures.after c.requires
