use Rattle.records.specs.Stores.{store}
use Rattle.records.specs.Steps.{Adds}
use Rattle.diagram.specs.Uses.{in_use}
use Rattle.diagram.specs.Views.{view, room}
use Rattle.records.proofs.Shapes.{well, adds, grows_adds, well_adds}
use Rattle.diagram.proofs.table.Table.add.Goals as goal

step : (c : goal.After-add) → Adds (view c.args.self.now) (room c.args.self.now) c.args.r c.add.result (store c.args.self.now.inputs (in_use c.add.new.self))
step c = adds c.args.self.now.inputs _ _ _ c.args.r c.add.result c.add.ensures.place

pub invariant_of-self : goal.invariant_of-self
invariant_of-self c = record { well = ∣ well_adds _ _ _ c.args.r c.add.result (well c.args.self.now.well) c.requires (step c) ∣₁ }

pub returns : goal.returns
returns c =
    let d = adds c.args.self.now.inputs _ _ _ c.args.r c.add.result c.add.ensures.place in
    record { grows = grows_adds _ _ _ c.args.r c.add.result d; place = d; room = c.add.ensures.room }
