-- `put_table` writes the names and then the lines.
use mathlib.Core.{Path.{◌≡◌, refl}, List.{List, ◌++◌, map}}
use Prim.Native.Nat.{ℕ}
use native.Mathlib.Omega.{arith}
use Rattle.tables.specs.Parts.{parts_of}
use Rattle.writing.{specs.Text.{text_of}, proofs.Filling.{Filling, filling_start, filling_room, filling_rest, text_room_lem, text_step}}
use Rattle.row_text.specs.Shown.{shown_line, lines_after}
use Rattle.row_text.proofs.put_table.Goals as goal
use Rattle.row_text.proofs.put_table.Goals.{After-put_bytes-p, Start}

module _ (s : Start) where
  abbrev lines : List ℕ
  lines = text_of (map (shown_line s.args.what) (parts_of s.args.width s.args.n s.args.table.now))

  abbrev text : List ℕ
  text = lines_after s.args.names.now s.args.what (parts_of s.args.width s.args.n s.args.table.now)

  text_is : text ≡ s.args.names.now ++ lines
  unfolding lines_after
  text_is = refl

  abbrev Left : List ℕ → ℕ → List ℕ → Type 0
  Left now at t = Filling s.args.buf.now 0 text now at t

  whole : Left s.args.buf.now 0 text
  whole = filling_start _ 0 text (omega (arith, s.requires.table_in_bounds))

pub put_bytes-p-requires : goal.put_bytes-p-requires
put_bytes-p-requires c = text_room_lem (whole (goal.at.put_bytes-p-requires c).Start) c.args.names.now (lines (goal.at.put_bytes-p-requires c).Start) (text_is (goal.at.put_bytes-p-requires c).Start)

named : (k : After-put_bytes-p)
    → Left (goal.at.After-put_bytes-p k).Start k.put_bytes-p.new.buf k.put_bytes-p.result (lines (goal.at.After-put_bytes-p k).Start)
named k =
    text_step (whole (goal.at.After-put_bytes-p k).Start) k.args.names.now (lines (goal.at.After-put_bytes-p k).Start) (text_is (goal.at.After-put_bytes-p k).Start) k.put_bytes-p.ensures

pub put_rows-requires : goal.put_rows-requires
put_rows-requires c =
    record { le_width = c.requires.le_width; width_in_bounds = c.requires.width_in_bounds; rows_in_bounds = filling_room (named (goal.at.put_rows-requires c).After-put_bytes-p) }

pub returns : goal.returns
returns c = filling_rest (named (goal.at.returns c).After-put_bytes-p) c.put_rows.ensures
