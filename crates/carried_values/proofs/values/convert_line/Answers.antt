-- `convert_line` puts value by value.
use Rattle.std.proofs.Common.{ℕ, ◌<◌, ◌∷◌, ◌++◌, [], length, take, refl, sym, ap, ◌∙◌, add-one, arith}
use lib.Seq.{take_all, take-suc, take-suc-set}
use Rattle.carried_values.specs.Values.{carried}
use Rattle.carried_values.proofs.{Converting.{carried_count}}
use Rattle.carried_values.proofs.values.convert_line.Goals as goal

pub loop-k-init : goal.loop-k-init
loop-k-init c = refl

pub loop-k-preserved : goal.loop-k-preserved
loop-k-preserved c =
    let all = carried c.args.form c.args.v.now in
    let k = c.loop-k.k in
    let x = c.carried_value.result in
    let below : k < length all = omega (arith, c.requires.row_len, carried_count c.args.form c.args.v.now) in
    rw add-one
    (take-suc-set c.loop-k.row k x (omega arith) ∙ ap (λ t. t ++ (x ∷ [])) c.loop-k.invariant
    ∙ ap (λ (y : ℕ). take k all ++ (y ∷ [])) c.carried_value.ensures ∙ sym (take-suc all k 0 below))

pub returns : goal.returns
returns c =
    sym (take_all c.loop-k.k c.loop-k.row (omega arith)) ∙ c.loop-k.invariant
    ∙ take_all c.loop-k.k (carried c.args.form c.args.v.now) (omega (arith, c.requires.row_len, carried_count c.args.form c.args.v.now))
