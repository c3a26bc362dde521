-- What a function promises that puts a text into a lent buffer.
use Rattle.std.specs.Prelude.{ℕ, ◌≤◌}
use mathlib.Core.{Path.{◌≡◌}, Bool.{cond}, List.{List, ◌++◌}}
use lib.{Dec.{leb}, ListN.{length, drop}}

-- no text is longer than `room`; a buffer of at least so many bytes has the text t at its start, its other bytes are as they were, and r
-- is the text's length; a shorter buffer is as it was, and r is 0
pub record Told (room : ℕ) (t before after : List ℕ) (r : ℕ) : Type 0 where
  pub fits : length t ≤ room
  pub answer : r ≡ cond (leb room (length before)) (length t) 0
  pub holds : after ≡ cond (leb room (length before)) (t ++ drop (length t) before) before
