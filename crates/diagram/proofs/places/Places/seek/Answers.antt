use Rattle.std.proofs.Common.{arith}
use Rattle.records.specs.Keys.{Keyed}
use Rattle.diagram.proofs.Nodes.{lower, start_sought, pass_sought}
use Rattle.diagram.proofs.places.Places.seek.Goals as goal

pub loop-p-init : goal.loop-p-init
loop-p-init c = start_sought c.args.self.now _ _ _ _ _ c.chain_of.ensures.chain c.chain_of.ensures.within c.index-link.ensures

pub loop-p-preserved : goal.loop-p-preserved
loop-p-preserved c =
    let r = c.args.r in
    let node = c.index-node.result.now in
    let not : Keyed node.record r.input r.low r.high → ⊥ = λ k. grind arith in
    pass_sought c.args.self.now _ _ _ _ node (rw c.in-Some.ensures at c.loop-p.invariant) c.index-node.ensures not

pub loop-p-smaller : goal.loop-p-smaller
loop-p-smaller c = omega (arith, lower c.args.self.now c.in-Some.p _ (omega arith) c.index-node.ensures)
