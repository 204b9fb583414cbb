use Rattle.std.proofs.Common.{◌++◌, drop, ap, arith}
use Rattle.netlist.specs.Lines.{line_signals, outs}
use Rattle.netlist.proofs.OutValues.{out_signals_length}
use Rattle.netlist.proofs.Graded.{verdicts}
use Rattle.evaluation.proofs.comparison.compare_by_patterns.Goals as goal

pub returns : goal.returns
returns g c =
    let o = g.G.Algebra.ops in
    let n = c.args.inputs in
    let ls = c.args.first.now in
    let ms = c.args.second.now in
    let pairs = c.in_ok-pairs.pairs in
    let ok = c.in_ok-pairs.ensures in
    let es = out_signals_length o n ls in
    let et = out_signals_length o n ms in
    let whole = ap (λ fs. fs ++ drop pairs c.args.found.now) c.try_patterns.ensures.found in
    record {
      answer = (ok.0, ok.1, whole);
      verdicts = λ k h.
          verdicts o g.G.Algebra.laws n (outs ls (line_signals o n ls)) (outs ms (line_signals o n ms)) _ (drop pairs c.args.found.now)
          (let q = ok.1.pairs in omega arith) whole k (let p = ok.0 in omega arith);
      rest = c.try_patterns.ensures.rest;
    }
