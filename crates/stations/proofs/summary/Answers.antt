-- `summary` asks the sheet's own question in a separate table, tests the room of both tables, and then writes.
use Prim.Native.Nat.{◌≤◌}
use native.Mathlib.Omega.{arith}
use Rattle.judgement.specs.Limits.{most_lines}
use Rattle.station_sums.proofs.RowSums.{small_at}
use Rattle.stations.proofs.Answers.{rows_most, rows_within, short_elsewhere, rows_elsewhere, refused_elsewhere, stations_count}
use Rattle.stations.proofs.Answers.{copied_answered, summary_is, summary_refused_lem, summary_short, summary_done}
use borrow.Author.Rules.{rules}
use Rattle.stations.proofs.summary.Goals as goal
use Rattle.stations.proofs.summary.Goals.{In-Rows}

-- the count of rows is at most the limit
most : (c : In-Rows) → c.in-Rows.n ≤ most_lines
most c = rows_most c.sheet.ensures c.in-Rows.is (search rules)

pub find_stations-found-requires : goal.find_stations-found-requires
find_stations-found-requires c =
    record { n_le_most_lines = most (goal.at.find_stations-found-requires c).In-Rows; n_in_bounds = rows_within c.sheet.ensures c.in-Rows.is (search rules) }

pub overflow_mul-room : goal.overflow_mul-room
overflow_mul-room c = omega (arith, most (goal.at.overflow_mul-room c).In-Rows)

pub overflow_mul-beside_room : goal.overflow_mul-beside_room
overflow_mul-beside_room c = omega (arith, most (goal.at.overflow_mul-beside_room c).In-Rows, c.find_stations-found.ensures.most)

pub returns-then-rows-room : goal.returns-then-rows-room
returns-then-rows-room c =
    summary_refused_lem _ _ _ (short_elsewhere c.sheet.ensures c.in-Rows.is (search rules) _ c.if-rows-room.true)

pub returns-then-beside-beside_room : goal.returns-then-beside-beside_room
returns-then-beside-beside_room c =
    let a = c.sheet.ensures in
    let q = c.in-Rows.is in
    summary_short _ _ _ (rows_elsewhere a q (search rules) _ c.if-rows-room.false) (stations_count a q (search rules) c.find_stations-found.ensures)
    c.if-beside-beside_room.true

pub copy_numbers-requires : goal.copy_numbers-requires
copy_numbers-requires c =
    record { n_in_bounds = rows_within c.sheet.ensures c.in-Rows.is (search rules); n_in_bounds_2 = c.if-rows-room.false }

pub sum_rows-requires : goal.sum_rows-requires
sum_rows-requires c =
    let p = c.find_stations-found.ensures in record {
      n_le_most_lines = most (goal.at.sum_rows-requires c).In-Rows;
      n_in_bounds = rows_within c.sheet.ensures c.in-Rows.is (search rules);
      by_index = λ i h.
          omega (arith, p.within i h, p.most, most (goal.at.sum_rows-requires c).In-Rows);
    }

pub put_stations-requires : goal.put_stations-requires
put_stations-requires c =
    let few = c.find_stations-found.ensures.most in record { count_le_most_lines = omega (arith, few, most (goal.at.put_stations-requires c).In-Rows); by_index = λ i h. rw (c.sum_rows.ensures i (omega (arith, few, most (goal.at.put_stations-requires c).In-Rows))) (small_at _ _ _ _ (most (goal.at.put_stations-requires c).In-Rows)); count_in_bounds = c.if-beside-beside_room.false }

pub returns-in-Refused : goal.returns-in-Refused
returns-in-Refused c =
    summary_refused_lem _ _ _ (refused_elsewhere c.sheet.ensures c.in-Refused.is (search rules) _)

pub returns-else-beside-beside_room : goal.returns-else-beside-beside_room
returns-else-beside-beside_room c =
    let a = c.sheet.ensures in
    let q = c.in-Rows.is in
    let p = c.find_stations-found.ensures in
    summary_done _ _ _ (rows_elsewhere a q (search rules) _ c.if-rows-room.false) (stations_count a q (search rules) p) _ c.if-beside-beside_room.false
    (copied_answered a q (search rules) c.if-rows-room.false
    c.copy_numbers.ensures)
    (summary_is a q (search rules) _ p c.sum_rows.ensures) c.put_stations.ensures
