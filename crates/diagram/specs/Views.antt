-- What of a table the contracts speak of. Assumes nothing.
use Rattle.std.specs.Prelude.{ℕ}
use Rattle.diagram.specs.declared.table.Table.{Table}
use Rattle.records.specs.Stores.{Store, store}
use Rattle.diagram.specs.Uses.{in_use, room_for}

-- its inputs and the places in use
abbrev pub view : Table → Store
view t = store t.inputs (in_use t.places)

-- how many places it has
abbrev pub room : Table → ℕ
room t = room_for t.places
