-- What each program prints of its standard input; `verdict`: §3.3.
use Rattle.std.specs.Prelude.{ℕ, List}
use Rattle.case.specs.declared.Form.TheVariants.{Present, Former}
use Rattle.listing.specs.declared.Program.{Program, TheVariants.{Verdict, Rows, Margins, Summary, Fewest, Carry, CarryBack}}
use Rattle.sheet_text.specs.Texts.{verdict_text, rows_text, margins_text, summary_text}
use Rattle.search_text.specs.Fewest.{fewest_text}
use Rattle.carry_text.specs.Carried.{carry_text}

unfoldable pub program_text : Program → List ℕ → List ℕ
program_text Verdict s = verdict_text s
program_text Rows s = rows_text s
program_text Margins s = margins_text s
program_text Summary s = summary_text s
program_text Fewest s = fewest_text s
program_text Carry s = carry_text Present s
program_text CarryBack s = carry_text Former s
