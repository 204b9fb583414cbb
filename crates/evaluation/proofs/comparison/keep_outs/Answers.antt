use Rattle.std.proofs.Common.{◌≡◌, ◌<◌, ◌≤◌, length, drop, refl, subst, sym, ◌∙◌, arith}
use Rattle.std.proofs.lemmas.Bool.{eqb-true, eqb-false}
use Rattle.netlist.proofs.OutLines.{kept_out, kept_other, kept_all}
use Rattle.evaluation.proofs.comparison.keep_outs.Goals as goal
use Rattle.evaluation.proofs.comparison.keep_outs.Goals.{then-is_out, else-is_out}

pub loop-number-preserved : goal.loop-number-preserved
loop-number-preserved c =
    let ls = c.args.lines.now in
    let old = c.args.values.now in
    let vs = c.loop-number.values in
    let i = c.loop-number.number in
    let n = c.loop-number.count in
    let h : i < length ls = c.loop-number-test.true in
    let room : length ls ≤ length vs = (let r = c.requires in let k = c.loop-number.auto.values in omega arith) in
    elim c.if-is_out.branch [
      | then-is_out w ↦ rw (w.values-is, w.count-is) (kept_out ls old vs i n c.loop-number.invariant _ h room _ refl (eqb-true _ 8 (sym c.is_out.ensures ∙ w.if-is_out.true)))
      | else-is_out w ↦ rw (w.values-is, w.count-is) (kept_other ls old vs i n c.loop-number.invariant _ h room (eqb-false _ 8 (sym c.is_out.ensures ∙ w.if-is_out.false)))
    ]

pub returns : goal.returns
returns c =
    let ls = c.args.lines.now in
    let k = c.loop-number.invariant in
    let i = c.loop-number.number in
    let far : length ls ≤ i = c.loop-number-test.false in
    let end : i ≡ length ls = (let e = c.loop-number.auto.number-end in omega arith) in
    record {
      kept = kept_all ls c.args.values.now c.loop-number.values i c.loop-number.count k far;
      rest = subst (λ m. drop m c.loop-number.values ≡ drop m c.args.values.now) end k.rest;
    }
