-- `values_finding` meets its contract, by what the checks of the values find.
use mathlib.Core.Path.{sym, ◌∙◌}
use native.Mathlib.Omega.{arith}
use Rattle.case.proofs.Findings.{rods_place_lem}
use Rattle.line_finding.specs.Findings.{or_finding}
use Rattle.line_finding.proofs.{Keys.{key_fits}}
use Rattle.line_finding.proofs.values_finding.Goals as goal

pub bounds-v-0 : goal.bounds-v-0
bounds-v-0 c =
    omega (arith, c.requires.v_len, (rods_place_lem c.args.form).thick)

pub bounds-v-1 : goal.bounds-v-1
bounds-v-1 c =
    omega (arith, c.requires.v_len, (rods_place_lem c.args.form).thick)

pub key-k-requires : goal.key-k-requires
key-k-requires c =
    key_fits c.args.form _ c.requires.placed c.requires.v_len (sym c.check_values.ensures ∙ c.in-Sound.is)

pub returns-in-OutOfRange : goal.returns-in-OutOfRange
unfolding or_finding
returns-in-OutOfRange c = rw (sym c.check_values.ensures ∙ c.in-OutOfRange.is)

pub returns-in-Disagreement : goal.returns-in-Disagreement
unfolding or_finding
returns-in-Disagreement c = rw (sym c.check_values.ensures ∙ c.in-Disagreement.is)

pub returns-then-seen : goal.returns-then-seen
unfolding or_finding
returns-then-seen c =
    rw (
      sym c.check_values.ensures ∙ c.in-Sound.is,
      ← c.key-k.ensures,
      sym c.seen.ensures ∙ c.if-seen.true,
    )

pub returns-else-seen : goal.returns-else-seen
unfolding or_finding
returns-else-seen c =
    rw (
      sym c.check_values.ensures ∙ c.in-Sound.is,
      ← c.key-k.ensures,
      sym c.seen.ensures ∙ c.if-seen.false,
    )
