-- `put_field` tests the index.
use mir.Facts.{to_z-of_z}
use Rattle.fields.proofs.{LineFields.{field_word, field_number}}
use Rattle.fields.proofs.put_field.Goals as goal

pub put_word-requires : goal.put_word-requires
put_word-requires c =
    rw (to_z-of_z c.ranges.z) (rw (field_word c.args.z c.if-i-word.true) at c.requires)

pub returns-then-i-word : goal.returns-then-i-word
returns-then-i-word c =
    rw (field_word c.args.z c.if-i-word.true) (rw (to_z-of_z c.ranges.z) at c.put_word.ensures)

pub put_signed-requires : goal.put_signed-requires
put_signed-requires c =
    rw (to_z-of_z c.ranges.z) (rw (field_number c.args.z c.if-i-word.false) at c.requires)

pub returns : goal.returns
returns c =
    rw (field_number c.args.z c.if-i-word.false) (rw (to_z-of_z c.ranges.z) at c.put_signed.ensures)
