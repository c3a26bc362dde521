-- `answer_to` splits the input at its first byte 10 and asks the search: proofs/SearchTexts.antt.
use Rattle.text.proofs.FieldTurns.{part_length}
use Rattle.search_text.proofs.{SearchTexts.{long_input, input_answer_lem}}
use Rattle.search_text.proofs.answer_to.Goals as goal

pub returns-then-s-gt-INPUT : goal.returns-then-s-gt-INPUT
returns-then-s-gt-INPUT c = long_input c.args.s.now c.if-s-gt-INPUT.true

pub slice_bounds-side_of-end : goal.slice_bounds-side_of-end
slice_bounds-side_of-end c = part_length 10 _ _ c.find-e.ensures

pub returns : goal.returns
returns c =
    input_answer_lem c.args.s.now c.find-e.ensures c.skip-next.ensures c.if-s-gt-INPUT.false c.side_of-side.ensures
    c.fewest_of_sheet.ensures
