-- `case::check` meets its contract: its columns are the places of the names.
use mathlib.Core.Path.{sym, ap, ◌∙◌}
use lib.ListN.{length}
use Rattle.case.specs.{Columns.{columns, name_count_lem}, Check.{count_from, own_places, finding, case_finding, record_finding}}
use Rattle.case.specs.Parts.{form_of}
use Rattle.case.proofs.check.Goals as goal

pub check_values-requires : goal.check_values-requires
unfolding form_of
check_values-requires c = record { at_len = sym name_count_lem; v_len = ap length c.values_of-v.ensures ∙ sym name_count_lem }

pub returns : goal.returns
unfolding record_finding case_finding own_places count_from columns form_of
returns c = c.check_values.ensures ∙ ap (finding columns _) c.values_of-v.ensures
