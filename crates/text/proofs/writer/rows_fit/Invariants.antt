use Rattle.std.proofs.Common.{◌≡◌, ◌+◌, map, drop}
use Rattle.text.specs.Reports.{findings_size}
use Rattle.text.proofs.writer.rows_fit.Given as goal

abbrev pub invariant-loop-row : goal.invariant-loop-row
invariant-loop-row g l =
    findings_size l.width (map g.F.HasFinding.of l.findings) + l.left ≡ findings_size l.width (map g.F.HasFinding.of (drop l.row-index l.findings)) + l.room
