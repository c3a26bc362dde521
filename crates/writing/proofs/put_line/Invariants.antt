-- `put_line` writes the parts of a line one after the other: proofs/LineWriting.antt.
use Rattle.std.proofs.Common.{◌+◌}
use Rattle.writing.proofs.LineWriting.{LineAt}
use Rattle.writing.proofs.put_line.Given as goal

abbrev pub invariant-loop-n : goal.invariant-loop-n
invariant-loop-n l = LineAt l.initial.buf l.initial.p l.v l.buf l.p (l.n-index + 1)
