use Rattle.std.proofs.Common.{not, refl, ap}
use Rattle.records.specs.Supports.{mask_below}
use Rattle.records.specs.Rules.{settled_code, firm_code}
use Rattle.diagram.proofs.Passes.{mask_more}
use Rattle.diagram.proofs.codes.Codes.of.Goals as goal

pub loop-v-init : goal.loop-v-init
unfolding mask_below
loop-v-init g c = (refl, refl)

pub loop-v-preserved : goal.loop-v-preserved
loop-v-preserved g c =
    let o = g.G.Algebra.ops in
    let v = c.loop-v.v in (
      mask_more (λ v. not (settled_code o v)) v c.loop-v.loose c.with-loose.result (not c.is_settled_code.result) c.loop-v.invariant.0 (ap not c.is_settled_code.ensures) c.with-loose.ensures,
      mask_more (firm_code o) v c.loop-v.firm c.with-firm.result c.is_firm_code.result c.loop-v.invariant.1 c.is_firm_code.ensures c.with-firm.ensures,
    )
