-- No text of any program is longer than the room.
use Prim.Native.Nat.{ℕ, ◌≤◌}
use mathlib.Core.List.{List}
use native.Mathlib.Omega.{arith}
use lib.ListN.{length}
use Rattle.case.specs.declared.Form.TheVariants.{Present, Former}
use Rattle.listing.specs.declared.Program.{Program, TheVariants.{Verdict, Rows, Margins, Summary, Fewest, Carry, CarryBack}}
use Rattle.listing.specs.Programs.{program_text}
use Rattle.row_text.specs.declared.Shown.TheVariants as shown
use Rattle.row_text.{specs.Room.{text_room}, proofs.Texts.{verdict_line, row_line, margin_line}}
use Rattle.sheet_text.proofs.{SheetTexts.{shown_fits}, StationTexts.{summary_fits}, Texts.{verdict_shown, rows_shown, margins_shown}}
use Rattle.search_text.proofs.SearchTexts.{fewest_fits}
use Rattle.carry_text.proofs.CarriedTexts.{carried_fits}

pub program_fits : (program : Program) (s : List ℕ) → length (program_text program s) ≤ text_room
unfolding program_text
program_fits Verdict s = rw (verdict_shown s) (shown_fits verdict_line shown.Verdict s (omega arith))
program_fits Rows s = rw (rows_shown s) (shown_fits row_line shown.Numbers s (omega arith))
program_fits Margins s = rw (margins_shown s) (shown_fits margin_line shown.Margins s (omega arith))
program_fits Summary s = summary_fits s
program_fits Fewest s = omega (arith, fewest_fits s)
program_fits Carry s = omega (arith, carried_fits Present s)
program_fits CarryBack s = omega (arith, carried_fits Former s)
