use Rattle.std.proofs.Common.{arith}
use Rattle.std.proofs.lemmas.Nat.{pow_pos}
use Rattle.diagram.proofs.Nodes.{tied_none}
use Rattle.diagram.proofs.places.Places.new.Goals as goal

pub invariant_of-result : goal.invariant_of-result
invariant_of-result c =
    let power = c.next_power_of_two.ensures.power in
    let made = c.in_ok-nodes.ensures in
    let heads = c.in_ok-heads.ensures in
    let k = tied_none _ _ _ _ _ c.default.ensures made.items (heads.items_if_clones_equal (λ y e. e)) in
    record { small = omega arith; reserved = omega arith; within = omega arith; some = omega (arith, power.1, pow_pos power.0, heads.len); chained = ∣ k ∣₁ }
