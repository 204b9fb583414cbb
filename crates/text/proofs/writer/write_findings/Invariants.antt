use Rattle.std.proofs.Common.{◌+◌, ◌≤◌, map, length, take, drop}
use Rattle.text.specs.Reports.{findings_text, findings_size, Written}
use Rattle.text.proofs.writer.write_findings.Given as goal

abbrev pub invariant-loop-number : goal.invariant-loop-number
invariant-loop-number g l =
    Written (findings_text g.G.Algebra.ops.letter l.width 0 (map g.F.HasFinding.of (take l.number l.findings))) l.at l.initial.out l.out l.end
    × (l.end + findings_size l.width (map g.F.HasFinding.of (drop l.number l.findings)) ≤ length l.out)
