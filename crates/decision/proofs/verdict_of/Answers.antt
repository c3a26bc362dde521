-- `verdict_of` follows the two tests.
use mathlib.Core.Path.{sym, ◌∙◌}
use Rattle.decision.specs.Verdict.{verdict}
use Rattle.decision.proofs.verdict_of.Goals as goal

pub returns-then-is_safe : goal.returns-then-is_safe
unfolding verdict
returns-then-is_safe c = rw (sym c.is_safe.ensures ∙ c.if-is_safe.true)

pub returns-then-is_unsafe : goal.returns-then-is_unsafe
unfolding verdict
returns-then-is_unsafe c =
    rw (
      sym c.is_safe.ensures ∙ c.if-is_safe.false,
      sym c.is_unsafe.ensures
          ∙ c.if-is_unsafe.true,
    )

pub returns : goal.returns
unfolding verdict
returns c =
    rw (
      sym c.is_safe.ensures ∙ c.if-is_safe.false,
      sym c.is_unsafe.ensures
          ∙ c.if-is_unsafe.false,
    )
