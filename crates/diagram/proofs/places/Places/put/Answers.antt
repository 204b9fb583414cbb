use Rattle.std.proofs.Common.{arith}
use Rattle.diagram.proofs.Nodes.{tied_more}
use Rattle.diagram.proofs.places.Places.put.Goals as goal

pub invariant_of-self : goal.invariant_of-self
invariant_of-self c =
    let t = c.args.self.now in
    let k =
    tied_more t c.len-p.result c.chain_of-b.result record { «record» = c.args.r; next = c.index.result.now } _ _
    c.len-p.ensures c.to.ensures c.requires c.chain_of-b.ensures.chain c.chain_of-b.ensures.within c.index.ensures c.push_reserved.ensures.items
    in
    record { small = t.small; reserved = omega arith; within = omega arith; some = t.some; chained = ∣ k ∣₁ }
