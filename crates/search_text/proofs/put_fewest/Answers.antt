-- `put_fewest` writes the answer to the input.
use Rattle.search_text.specs.Fewest.{fewest_text}
use Rattle.search_text.proofs.put_fewest.Goals as goal

pub returns : goal.returns
unfolding fewest_text
returns c =
    rw (← c.answer_to.ensures) c.put_search.ensures
