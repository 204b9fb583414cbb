use Rattle.std.proofs.Common.{◌-◌, ap, ◌∙◌, arith}
use Rattle.std.proofs.lemmas.Nat.{one_shl}
use Rattle.std.proofs.lemmas.Bool.{eqb-true}
use Rattle.records.proofs.Matter.{ones_up}
use Rattle.diagram.proofs.readings.support.has_rest.Goals as goal

pub returns : goal.returns
returns c e i l d =
    let a = c.args.from in
    let n = c.args.inputs in
    ones_up c.args.mask a n i (eqb-true _ _ e ∙ ap (λ x. x - 1) (one_shl (n - a) 64 (omega (arith, c.requires.few)))) l d
