use Rattle.std.proofs.Common.{◌≡◌, ℕ, ◌<◌, true}
use Rattle.records.specs.Stores.{up}
use Rattle.records.specs.Walks.{combine}
use Rattle.diagram.specs.Shortcuts.{operand}
use Rattle.diagram.specs.Tasks.{number_of}
use Rattle.diagram.proofs.shortcut.gives.Given as goal

abbrev pub invariant-loop-v : goal.invariant-loop-v
invariant-loop-v g l =
    (v : ℕ) → v < l.v → up l.reach v ≡ true → g.F.Fn.post l.wanted (v, tt) (combine g.G.Algebra.ops (number_of l.task.operation) (operand l.task.x v) (operand l.task.y v))
