-- `put_word` tests the bits of the number: proofs/Words.antt.
use native.Mathlib.Omega.{arith}
use Rattle.fields.proofs.{Words.{safe_word, unsafe_word, undecided_word}}
use Rattle.fields.proofs.put_word.Goals as goal

pub put_bytes-requires : goal.put_bytes-requires
put_bytes-requires c =
    omega (arith, rw (safe_word c.ranges.z c.if-z-eq1.true) at c.requires)

pub returns-then-z-eq1 : goal.returns-then-z-eq1
returns-then-z-eq1 c =
    rw (safe_word c.ranges.z c.if-z-eq1.true) c.put_bytes.ensures

pub put_bytes-requires-then-z-eq2 : goal.put_bytes-requires-then-z-eq2
put_bytes-requires-then-z-eq2 c =
    omega (arith, rw (unsafe_word c.ranges.z c.if-z-eq2.true) at c.requires)

pub returns-then-z-eq2 : goal.returns-then-z-eq2
returns-then-z-eq2 c =
    rw (unsafe_word c.ranges.z c.if-z-eq2.true) c.put_bytes-then-z-eq2.ensures

pub put_bytes-requires-2 : goal.put_bytes-requires-2
put_bytes-requires-2 c =
    omega (arith, rw (undecided_word c.args.z c.if-z-eq1.false c.if-z-eq2.false) at c.requires)

pub returns : goal.returns
returns c =
    rw (undecided_word c.args.z c.if-z-eq1.false c.if-z-eq2.false) c.put_bytes-2.ensures
