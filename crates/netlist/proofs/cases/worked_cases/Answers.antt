use Rattle.std.proofs.Common.{refl}
use Rattle.netlist.specs.Parts.{all_below, below, concat, parts, among, different, part_count}
use Rattle.netlist.specs.Lines.{signals_after, line_signals, outs}
use Rattle.netlist.specs.Findings.{first_from, gravest, zipped}
use Rattle.netlist.proofs.cases.worked_cases.Goals as goal

pub returns : goal.returns
unfolding all_below below concat parts among different part_count signals_after line_signals outs first_from gravest zipped
returns c = record { count = refl; worked = tt }
