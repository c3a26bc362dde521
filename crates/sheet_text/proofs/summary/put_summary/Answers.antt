-- `put_summary` writes the lines of the summary table, or the refusal: proofs/StationTexts.antt.
use native.Mathlib.Omega.{arith}
use borrow.Author.Rules.{rules}
use Rattle.sheet_text.proofs.StationTexts.{summary_refused_lem, stations_within, stations_are, stations_room}
use Rattle.sheet_text.proofs.summary.put_summary.Goals as goal

pub slice_bounds-summary-end : goal.slice_bounds-summary-end
slice_bounds-summary-end c = search rules

pub slice_bounds-summary-end-2 : goal.slice_bounds-summary-end-2
slice_bounds-summary-end-2 c = search rules

pub put_table-requires : goal.put_table-requires
put_table-requires c =
    record {
      le_width = (omega arith, omega arith);
      width_in_bounds = stations_within c.args.s.now c.summary.ensures
          (search rules)
          (search rules) c.in-Ok.is;
      table_in_bounds = stations_room c.args.s.now c.summary.ensures
          (search rules)
          (search rules) c.in-Ok.is c.requires;
    }

pub returns-in-Ok : goal.returns-in-Ok
returns-in-Ok c =
    rw (stations_are c.args.s.now c.summary.ensures
    (search rules)
    (search rules) c.in-Ok.is)
    c.put_table.ensures

pub returns-in-Err : goal.returns-in-Err
returns-in-Err c =
    rw (summary_refused_lem c.args.s.now c.summary.ensures
    (search rules)
    (search rules) c.in-Err.is)
    c.put_refusal.ensures
