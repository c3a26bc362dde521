-- `text` answers 0 where the longest text has no room, else the program's text: proofs/Telling.antt.
use Rattle.listing.proofs.{Programs.{program_fits}, Telling.{told_short, told_put}}
use Rattle.listing.proofs.text.Goals as goal

pub returns-then-out-lt-TEXT : goal.returns-then-out-lt-TEXT
returns-then-out-lt-TEXT c = told_short (program_fits _ _) c.if-out-lt-TEXT.true

pub returns : goal.returns
returns c = told_put (program_fits _ _) c.if-out-lt-TEXT.false c.put_text.ensures
