use Rattle.std.proofs.Common.{◌-◌, ◌≤◌, length, take, sym, ap, ◌∙◌, arith}
use Rattle.std.proofs.lemmas.List.{take-take, take_all, length-take-le}
use Rattle.diagram.specs.Uses.{in_use}
use Rattle.diagram.proofs.places.Places.truncate.Goals as goal

pub loop-preserved : goal.loop-preserved
loop-preserved c =
    let old = in_use c.loop.self in
    let less : c.args.n ≤ length old - 1 = omega arith in
    let long = length-take-le (length old - 1) old (omega arith) in
    let list = c.drop_last.ensures.list in
    (omega (arith, ap length list), ap (take c.args.n) list ∙ take-take _ _ old less ∙ c.loop.invariant.1, c.drop_last.ensures.room ∙ c.loop.invariant.2)

pub returns : goal.returns
returns c =
    let all : length (in_use c.loop.self) ≤ c.args.n = omega arith in
    record { list = sym (take_all _ _ all) ∙ c.loop.invariant.1; room = c.loop.invariant.2 }
