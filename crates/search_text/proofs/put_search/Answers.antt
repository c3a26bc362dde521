-- `put_search` writes the word and the numbers of the answer.
use Rattle.search_text.specs.Fewest.{search_text}
use Rattle.search_text.proofs.put_search.Goals as goal

pub returns-in-Ok-Found : goal.returns-in-Ok-Found
unfolding search_text
returns-in-Ok-Found c =
    let found = rw c.in-Ok-Found.is at c.in-Ok-Found.field-0-is in
    rw (c.in-Ok-Found.is, found) c.put_numbered.ensures

pub returns-in-Ok-None : goal.returns-in-Ok-None
unfolding search_text
returns-in-Ok-None c =
    let none = rw c.in-Ok-None.is at c.in-Ok-None.field-0-is in
    rw (c.in-Ok-None.is, none) c.put_numbered-in-Ok-None.ensures

pub returns-in-Err : goal.returns-in-Err
unfolding search_text
returns-in-Err c = rw c.in-Err.is c.put_refusal.ensures
