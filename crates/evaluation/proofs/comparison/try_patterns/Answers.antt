use Rattle.std.proofs.Common.{refl, arith}
use Rattle.netlist.specs.declared.finding.Finding.TheVariants.{Clean}
use Rattle.netlist.specs.Lines.{line_signals, outs}
use Rattle.netlist.proofs.OutValues.{out_signals_length}
use Rattle.netlist.proofs.PairGrades.{all_clean}
use Rattle.evaluation.proofs.comparison.try_patterns.Goals as goal

pub loop-number-init : goal.loop-number-init
loop-number-init g c =
    let o = g.G.Algebra.ops in
    let n = c.args.inputs in
    let ls = c.args.first.now in
    let ms = c.args.second.now in
    let es = out_signals_length o n ls in
    let et = out_signals_length o n ms in
    let k = c.fill.ensures.len in
    let p = c.requires.pairs in
    let q = c.requires.accepted.pairs in
    (all_clean o c.fill.new.self (outs ls (line_signals o n ls)) (outs ms (line_signals o n ms)) (omega arith) (omega arith) (λ j h. c.fill.ensures.clones j Clean (omega arith) refl), refl)
