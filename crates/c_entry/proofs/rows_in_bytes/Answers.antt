-- `rows_in_bytes` lends a store with room for the sheet's lines.
use lib.Dec.{lit≤}
use Rattle.c_entry.proofs.{Rooms.{short_room, whole_room}}
use Rattle.c_entry.proofs.rows_in_bytes.Goals as goal

pub fill_buffer-requires : goal.fill_buffer-requires
fill_buffer-requires c = short_room _ (c.is_short.ensures c.if-is_short.true) (lit≤ tt)

pub fill_buffer-requires-2 : goal.fill_buffer-requires-2
fill_buffer-requires-2 c = whole_room _ (lit≤ tt)
