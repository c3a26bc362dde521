-- §4.9: what the table of metals has for a number.
use Rattle.std.specs.Prelude.{ℕ, cond, ◌&&◌, leb, Option, Some, None}
use Rattle.formulas.specs.Size as Size

-- "Each metal has its own Kf constant": the metals are numbered from 1 to 11
unfoldable pub constant_of : ℕ → Option ℕ
constant_of number = cond (leb 1 number && leb number 11) (Some (Size.Kf number)) None
