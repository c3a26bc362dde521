-- How many bytes a program's text has at most: proved in proofs/Fits.antt.
use Rattle.std.specs.Prelude.{ℕ, ◌+◌, ◌*◌}
use Rattle.judgement.specs.Limits.{most_lines}
use Rattle.row.specs.Row.{row_length}

-- a sign, twenty digits, and the comma or the byte 10 after them
abbrev pub field_bytes : ℕ
field_bytes = 22

-- the longest line of names
abbrev pub name_bytes : ℕ
name_bytes = 352

-- a line of names, and twenty fields for each of as many value lines as a sheet may have
abbrev pub text_room : ℕ
text_room = name_bytes + most_lines * (field_bytes * row_length)
