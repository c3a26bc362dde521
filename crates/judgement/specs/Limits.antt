-- §1.5: the limits of a sheet: its bytes and its value lines.
use Rattle.std.specs.Prelude.{ℕ}

-- the greatest number of bytes and of value lines of a sheet
pub record Limits : Type 0 where
  pub bytes : ℕ
  pub lines : ℕ

-- "A sheet has 1 to 64 value lines and at most 16,384 bytes.": the limits of the "programs sold earlier for the same columns".
abbrev pub earlier : Limits
earlier = record { bytes = 16384; lines = 64 }

-- "Raise the limit to 256 value lines and the sheet to 65,536 bytes."
abbrev pub today : Limits
today = record { bytes = 65536; lines = 256 }

abbrev pub most_bytes : ℕ
most_bytes = today.bytes

abbrev pub most_lines : ℕ
most_lines = today.lines
