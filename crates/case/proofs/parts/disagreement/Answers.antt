-- `case::parts::disagreement` meets its contract, by the laws of proofs/Findings.antt.
use mathlib.Core.Path.{sym, ◌∙◌}
use Rattle.case.proofs.Findings.{layer_disagrees, rodlen_disagrees, place_disagrees, all_agree}
use Rattle.case.proofs.parts.disagreement.Goals as goal

pub returns-then-not-agree : goal.returns-then-not-agree
returns-then-not-agree c = layer_disagrees _ _ _ (sym c.agree.ensures ∙ c.if-not-agree.true)

pub returns-then-not-agree-2 : goal.returns-then-not-agree-2
returns-then-not-agree-2 c =
    rodlen_disagrees _ _ _ c.rods_place-r.ensures.is (sym c.agree.ensures ∙ c.if-not-agree.false)
    (sym c.agree-2.ensures ∙ c.if-not-agree-2.true)

pub returns-then-agree : goal.returns-then-agree
returns-then-agree c =
    all_agree _ _ _ c.rods_place-r.ensures.is (sym c.agree.ensures ∙ c.if-not-agree.false)
    (sym c.agree-2.ensures ∙ c.if-not-agree-2.false)
    (sym c.agree-3.ensures ∙ c.if-agree.true)

pub returns : goal.returns
returns c =
    place_disagrees _ _ _ c.rods_place-r.ensures.is (sym c.agree.ensures ∙ c.if-not-agree.false)
    (sym c.agree-2.ensures ∙ c.if-not-agree-2.false)
    (sym c.agree-3.ensures ∙ c.if-agree.false)
