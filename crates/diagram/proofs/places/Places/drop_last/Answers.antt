use Rattle.std.proofs.Common.{arith}
use Rattle.diagram.proofs.Nodes.{tied_fewer}
use Rattle.diagram.proofs.places.Places.drop_last.Goals as goal

pub invariant_of-self : goal.invariant_of-self
invariant_of-self c =
    let t = c.args.self.now in
    let k =
    tied_fewer t c.len-p.result c.chain_of-b.result c.index-node.result.now _
    c.len-p.ensures c.requires c.index-node.ensures c.chain_of-b.ensures.chain c.truncate.ensures.items
    in
    record { small = t.small; reserved = omega arith; within = omega arith; some = t.some; chained = ∣ k ∣₁ }
