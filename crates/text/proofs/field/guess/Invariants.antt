use Rattle.std.proofs.Common.{◌≡◌, ◌<◌, ◌^◌, take}
use Rattle.text.specs.Guesses.{guessed}
use Rattle.text.proofs.field.guess.Given as goal

abbrev pub invariant-loop-b : goal.invariant-loop-b
invariant-loop-b l = (l.n ≡ guessed (take l.b-index l.s)) × (l.n < 10 ^ l.b-index)
