-- `judgement::pass::check_lines` meets its contract: the pass of proofs/Passing.antt.
use lib.ListN.{length}
use Rattle.case.{specs.Parts.{form_of}}
use Rattle.line_finding.{specs.Parts.{AtMost}}
use Rattle.judgement.proofs.Passing.{Passing}
use Rattle.judgement.proofs.pass.check_lines.Given as goal
use Rattle.std.specs.Prelude.{Ok}

abbrev pub invariant-loop-rest : goal.invariant-loop-rest
invariant-loop-rest l =
    Passing (form_of l.form) l.s l.at l.keys l.rest l.n (Ok l.count) l.initial.values l.values × AtMost l.keys l.n l.most

abbrev pub decreases-loop-rest : goal.decreases-loop-rest
decreases-loop-rest l = length l.rest
