use Rattle.std.proofs.Common.{◌≡◌, ◌-◌, ◌/◌, ◌^◌, ◌≤◌, ◌++◌, replicate}
use Rattle.text.specs.Guesses.{columns}
use Rattle.text.proofs.field.columns.Given as goal

abbrev pub invariant-loop-i : goal.invariant-loop-i
invariant-loop-i g l =
    (l.i ≤ g.row.N) × (l.field ≡ replicate l.i 32 ++ columns (g.row.N - l.i) l.n) × (l.rest ≡ l.n / 10 ^ (g.row.N - l.i))
