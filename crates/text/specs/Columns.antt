-- What is said of the columns of a line. Document 01, 'The result table': "Within one number the leftmost column comes first".
use Rattle.std.specs.Prelude.{ℕ, zero, suc, Result, Ok, Err}

-- by the leftmost wrong column, counted from 1, or 0 where none is wrong: all are right, or that one is wrong
unfoldable pub columns_by : ℕ → Result Unit ℕ
columns_by zero = Ok tt
columns_by (suc c) = Err (suc c)
