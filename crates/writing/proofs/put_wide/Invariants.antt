-- `put_wide` writes from the last digit on: the numbering of proofs/Digits.antt.
use Rattle.writing.proofs.{Digits.{Numbering}}
use Rattle.writing.proofs.put_wide.Given as goal

abbrev pub invariant-loop-i : goal.invariant-loop-i
invariant-loop-i l = Numbering l.initial.buf l.at l.n l.buf l.i l.m
