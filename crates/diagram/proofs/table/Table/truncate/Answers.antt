use Rattle.records.proofs.Shapes.{well, well_back, back_take}
use Rattle.diagram.proofs.table.Table.truncate.Goals as goal

pub invariant_of-self : goal.invariant_of-self
invariant_of-self c =
    record { well = ∣ well_back c.args.used (well c.args.self.now.well) c.requires (back_take c.args.self.now.inputs c.args.used _ _ c.requires c.truncate.ensures.list) ∣₁ }
