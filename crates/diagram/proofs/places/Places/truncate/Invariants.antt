use Rattle.std.proofs.Common.{◌≡◌, ◌+◌, length, take}
use Rattle.diagram.specs.Uses.{in_use, room_for}
use Rattle.diagram.proofs.places.Places.truncate.Given as goal

abbrev pub invariant-loop : goal.invariant-loop
invariant-loop l =
    (length (in_use l.self) + l.counter ≡ l.end + l.n)
    × (take l.n (in_use l.self) ≡ take l.n (in_use l.initial.self))
    × (room_for l.self ≡ room_for l.initial.self)
