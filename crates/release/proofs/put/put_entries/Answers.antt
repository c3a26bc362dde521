-- `put_entries` puts entry after entry.
use mathlib.Core.{Path.{sym}}
use native.Mathlib.Omega.{arith}
use Rattle.tables.{proofs.Filling.{filled_step, filled_end}}
use Rattle.table_rows.specs.Rows.{stored_cases}
use Rattle.release.proofs.{Tables.{release_count, release_at}}
use Rattle.release.proofs.put.put_entries.Goals as goal

pub loop-i-preserved : goal.loop-i-preserved
loop-i-preserved c =
    filled_step c.loop-i.invariant c.put_entry.ensures
    (sym (release_at c.args.licence.now (stored_cases c.args.values.now c.args.n) _ (omega arith)))

pub returns : goal.returns
returns c =
    filled_end c.loop-i.invariant (omega (arith, c.loop-i-test.false, release_count c.args.licence.now (stored_cases c.args.values.now c.args.n)))
