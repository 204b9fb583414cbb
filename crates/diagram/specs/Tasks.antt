-- The operations of a walk, by the numbers under which memos file them. Assumes nothing.
use Rattle.std.specs.Prelude.{ℕ}
use Rattle.algebra.specs.Operators.{op_number}
use Rattle.memo.specs.declared.key.Key.{Key}
use Rattle.diagram.specs.declared.task.Task.{Task}
use Rattle.diagram.specs.declared.task.Operation.{Operation}
use Rattle.diagram.specs.declared.task.Operation.TheVariants.{Turn, Join}

-- NOT has a number that no operator has
abbrev pub number_of : Operation → ℕ
number_of Turn = 2
number_of (Join k) = op_number k

-- the key of a task in a memo
abbrev pub key_of : Task → Key
key_of t = record { x = t.x; y = t.y; op = number_of t.operation }
