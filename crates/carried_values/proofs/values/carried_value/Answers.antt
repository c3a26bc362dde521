-- `carried_value` picks the value at its place, or the frequency.
use Rattle.std.proofs.Common.{sym, ap, ◌∙◌, unwrap_or, arith}
use Rattle.carried_values.proofs.{Places.{picked, picked_read, value_picked}}
use Rattle.carried_values.proofs.values.carried_value.Goals as goal

pub returns : goal.returns
returns c =
    c.unwrap_or.ensures
    ∙ ap (λ o. unwrap_or o 60) c.copied.ensures
    ∙ c.get.ensures.lookup.4 (omega arith) 60
    ∙ picked_read c.args.v.now c.source.result
    ∙ ap (picked c.args.v.now) c.source.ensures
    ∙ sym (value_picked c.args.form c.args.v.now c.args.k c.requires.v_len c.requires.k_in_bounds)
