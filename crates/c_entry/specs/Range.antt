-- Which numbers answer a sheet. §11.2: "The answer is a signed number, the count of rows, or the refusal's number made negative".
use Rattle.std.specs.Prelude.{◌≤◌, ◌<◌, ℤ, pos, negsuc}
use Rattle.judgement.specs.Limits.{most_lines}

-- 1 to the greatest number of value lines, or −8 to −1: the sign distinguishes rows from a refusal. Proved of every answer in
-- proofs/Range.antt.
unfoldable pub InRange : ℤ → Type 0
InRange (pos n) = (1 ≤ n) × (n ≤ most_lines)
InRange (negsuc n) = n < 8
