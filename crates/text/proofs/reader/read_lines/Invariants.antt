use Rattle.std.proofs.Common.{◌≡◌, ◌+◌, ◌*◌, ◌≤◌, length, take, drop}
use Rattle.text.specs.Netlists.{values_number}
use Rattle.text.specs.Readings.{Begins}
use Rattle.text.proofs.reader.read_lines.Given as goal

abbrev pub invariant-loop-due : goal.invariant-loop-due
invariant-loop-due l =
    Begins l.bytes l.from l.header.lines l.header.inputs (values_number l.header.values) (take l.due l.lines)
    × (l.from + 25 * (l.due + 1) ≤ length l.bytes) × (drop l.due l.lines ≡ drop l.due l.initial.lines)
