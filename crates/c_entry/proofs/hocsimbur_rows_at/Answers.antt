-- `hocsimbur_rows_at` also reports line and column.
use mathlib.Core.Path.{ap, ◌∙◌}
use Rattle.whole.proofs.Bits.{back}
use Rattle.c_tell.specs.Place.{place_after}
use Rattle.c_entry.proofs.{Answers.{told_few, told_signed}}
use Rattle.c_entry.proofs.hocsimbur_rows_at.Goals as goal

pub signed_answer-requires : goal.signed_answer-requires
signed_answer-requires c = told_few c.rows_in_bytes-answer.ensures

pub returns : goal.returns
returns c =
    let place = c.args.place.now in
    record {
      answered =
          told_signed c.rows_in_bytes-answer.ensures (back c.signed_answer.result c.signed_answer.type_inv ∙ c.signed_answer.ensures);
      place_is = c.put_place.ensures ∙ ap (λ a. place_after a place) c.rows_in_bytes-answer.ensures.answer_is;
    }
