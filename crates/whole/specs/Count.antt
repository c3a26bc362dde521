-- How often a test passes.
use Rattle.std.specs.Prelude.{ℕ, Bool, cond}

-- 1 where it passes, else 0
unfoldable pub one : Bool → ℕ
one b = cond b 1 0
