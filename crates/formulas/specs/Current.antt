-- The current that the grid passes to earth, in amperes. §4.4.
use Rattle.exact.specs.{Fraction.{whole, decimal, ◌·f◌}, Exact.{Exact, exactly, ◌·x◌}}
use Rattle.case.specs.declared.Case.{Case}
use Rattle.formulas.specs.Decrement.{Df}

-- "Grid current IG = fault·split·Df", split in thousandths
unfoldable pub IG : Case → Exact
IG c = exactly (whole c.fault ·f decimal c.split 3) ·x Df c
