-- `driven_parts` takes from the fixed parts what each formula asks.
use mathlib.Core.Path.{ap}
use Rattle.row.specs.Parts.{fixed_of, driven_of}
use Rattle.row.proofs.parts.driven_parts.Goals as goal

pub ig-current-requires : goal.ig-current-requires
unfolding fixed_of
ig-current-requires c = record { bounds = c.requires.bounds; factor_value = ap (λ f. f.factor) c.requires.fixed_value }

pub drive-drive-requires : goal.drive-drive-requires
unfolding fixed_of
drive-drive-requires c = record { bounds = c.requires.bounds; n_value = ap (λ f. f.number) c.requires.fixed_value; current_value = c.ig-current.ensures }

pub mesh_voltage-requires : goal.mesh_voltage-requires
unfolding fixed_of
mesh_voltage-requires c =
    record { bounds = c.requires.bounds; length_len = ap (λ f. f.lm) c.requires.fixed_value; factor_value = ap (λ f. f.km) c.requires.fixed_value; drive_value = c.drive-drive.ensures }

pub step_voltage-requires : goal.step_voltage-requires
unfolding fixed_of
step_voltage-requires c =
    record { bounds = c.requires.bounds; length_len = ap (λ f. f.ls) c.requires.fixed_value; factor_value = ap (λ f. f.ks) c.requires.fixed_value; drive_value = c.drive-drive.ensures }

pub returns : goal.returns
unfolding driven_of
returns c = rw (c.step_voltage.ensures, c.mesh_voltage.ensures, c.ig-current.ensures)
