-- What the places of a table hold. Assumes nothing.
use Rattle.std.specs.Prelude.{ℕ, List, vec_items}
use Rattle.records.specs.declared.record.Record.{Record}
use Rattle.diagram.specs.declared.places.Places.{Places}
use Rattle.diagram.specs.Chains.{records_of}

-- the records in use, by place
abbrev pub in_use : Places → List Record
in_use t = records_of (vec_items t.nodes)

-- how many records there can be
abbrev pub room_for : Places → ℕ
room_for t = t.room
