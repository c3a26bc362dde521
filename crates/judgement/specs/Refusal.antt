-- Refusals 1 to 7: number, line and column. §2.1.
use Rattle.std.specs.Prelude.{ℕ, ◌+◌}
use Rattle.line_finding.specs.declared.LineFinding.{LineFinding, TheVariants.{Sound, Form, OutOfRange, Disagreement, Repeated}}
use Rattle.judgement.specs.Limits.{Limits}
use Rattle.std.specs.Prelude.{Result}
use Rattle.refusal.specs.{declared.Refused.{Refused}, Refused.{refuse}}

-- "sheet empty, over 16,384 bytes, or last byte not 10"; today over 65,536 bytes (§1.5)
unfoldable pub text_refused : {A : Type 0} → Result A Refused
text_refused = refuse 1 0 0

-- "name unknown, or the same as one further left; or fewer than 18 names (first missing column)"; today 22
unfoldable pub name_refused : {A : Type 0} → ℕ → Result A Refused
name_refused column = refuse 2 1 column

-- "no value line (line 2), or more than 64 (line 66)"; today more than 256 (line 258)
unfoldable pub no_line_refused : {A : Type 0} → Result A Refused
no_line_refused = refuse 4 2 0

unfoldable pub many_lines_refused : {A : Type 0} → Limits → Result A Refused
many_lines_refused limits = refuse 4 (limits.lines + 2) 0

-- the refusal of a value line, or the judgement `sound` where nothing is wrong with the line
unfoldable pub line_judgement : {A : Type 0} → ℕ → Result A Refused → LineFinding → Result A Refused
line_judgement line sound Sound = sound
line_judgement line sound (Form column) = refuse 3 line column
line_judgement line sound (OutOfRange column) = refuse 5 line column
line_judgement line sound (Disagreement column) = refuse 6 line column
line_judgement line sound Repeated = refuse 7 line 0
