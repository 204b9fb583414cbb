-- What the findings of two netlists tell. Assumes nothing.
use Rattle.std.proofs.Common.{ℕ, List, [], sym, append-nil, arith}
use Rattle.algebra.specs.Laws.{Laws}
use Rattle.algebra.specs.Five.{five_laws}
use Rattle.algebra.specs.Two.{two_laws}
use Rattle.netlist.specs.Lines.{line_signals, outs}
use Rattle.netlist.specs.Findings.{findings}
use Rattle.netlist.proofs.LineSignals.{signals_length}
use Rattle.netlist.proofs.OutValues.{outs_length}
use Rattle.netlist.proofs.Graded.{verdicts}
use Rattle.text.specs.declared.header.Values.{Values}
use Rattle.text.specs.declared.header.Values.TheVariants.{Two, Five}
use Rattle.text.specs.Answers.{algebra_of}
use Rattle.report.specs.Reports.{Tells}

algebra_laws : (v : Values) → Laws (algebra_of v)
algebra_laws Two = two_laws
algebra_laws Five = five_laws

pub tells : (lines : ℕ) (bytes : List ℕ) → Tells lines bytes
tells lines bytes x y pair a even k h =
    let o = algebra_of pair.first.values in
    let n = pair.first.inputs in
    let ls = a.both.first.lines in
    let ms = a.both.second.lines in
    let es = outs_length ls (line_signals o n ls) (signals_length o n ls) in
    let et = outs_length ms (line_signals o n ms) (signals_length o n ms) in
    verdicts o (algebra_laws pair.first.values) n (outs ls (line_signals o n ls)) (outs ms (line_signals o n ms)) (findings o n ls ms) [] (omega arith) (sym (append-nil (findings o n ls ms))) k (omega arith)
