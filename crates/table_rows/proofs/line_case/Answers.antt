-- `line_case` reads the values of its own part.
use Prim.Native.Nat.{◌+◌, ◌*◌, ◌-◌}
use mathlib.Core.Path.{ap, ◌∙◌, ◌≡◌}
use native.Mathlib.Omega.{arith}
use lib.ListN.{take, drop}
use Rattle.case.specs.{Case.{case_of}, Columns.{name_count}}
use Rattle.table_rows.proofs.line_case.Goals as goal

pub returns : goal.returns
returns c =
    let w : name_count * (c.args.i + 1) - name_count * c.args.i ≡ name_count = omega arith in
    c.case_of.ensures ∙ ap (λ k. case_of (take k (drop (name_count * c.args.i) c.args.values.now))) w
