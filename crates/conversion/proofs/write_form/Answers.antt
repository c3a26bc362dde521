-- `write_form` writes the form's line of names and the lines of values.
use Prim.Native.Nat.{◌*◌}
use mathlib.Core.Path.{sym, ap}
use native.Mathlib.Omega.{arith}
use lib.Seq.{length-take-le}
use Rattle.writing.proofs.Whole.{written_size}
use Rattle.conversion.proofs.NamesLine.{names_most, names_put, put_within, form_written, some_names}
use Rattle.conversion.proofs.write_form.Goals as goal

pub put_names-m-requires : goal.put_names-m-requires
put_names-m-requires c = names_most c.args.form

pub slice_bounds-line-end : goal.slice_bounds-line-end
slice_bounds-line-end c = put_within c.put_names-m.ensures

pub slice_bounds-write_sheet-end : goal.slice_bounds-write_sheet-end
slice_bounds-write_sheet-end c = sym (length-take-le _ _ (put_within c.put_names-m.ensures))

pub write_sheet-requires : goal.write_sheet-requires
write_sheet-requires c =
    let e = c.name_count-k.ensures in
    record { k_nonzero = omega (arith, e, some_names c.args.form); k_in_bounds = omega (arith, c.requires.n_in_bounds, ap (λ k. k * c.args.n) e); table_value = rw e c.requires.values_value }

pub shape_of-buffer : goal.shape_of-buffer
shape_of-buffer c = written_size c.write_sheet.ensures

pub returns : goal.returns
returns c =
    form_written c.args.form _ _ c.name_count-k.ensures (names_put c.put_names-m.ensures)
    c.write_sheet.ensures
