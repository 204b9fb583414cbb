use Rattle.std.proofs.Common.{◌^◌, cond, refl, ap, ◌∙◌}
use lib.Bits.{bit_or}
use Rattle.records.specs.Marks.{turn_below}
use Rattle.diagram.proofs.Passes.{turn_more}
use Rattle.diagram.proofs.codes.Codes.turn_mask.Goals as goal

pub loop-v-init : goal.loop-v-init
unfolding turn_below
loop-v-init g c = refl

pub loop-v-preserved : goal.loop-v-preserved
loop-v-preserved g c =
    turn_more g.G.Algebra.ops c.args.mask c.loop-v.v c.turn.result c.loop-v.turned c.with-turned.result c.loop-v.invariant c.turn.ensures
    (c.with-turned.ensures ∙ ap (λ b. cond b (bit_or c.loop-v.turned (2 ^ c.turn.result)) c.loop-v.turned) c.is_up.ensures)
