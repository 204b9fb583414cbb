use Rattle.std.proofs.Common.{arith}
use Rattle.records.proofs.Shapes.{well}
use Rattle.records.proofs.Halves.{cut_inside}
use Rattle.diagram.proofs.table.Table.cut.Goals as goal

pub cofactors-second-requires-clause-inside : goal.cofactors-second-requires-clause-inside
cofactors-second-requires-clause-inside g c =
    let inside = cut_inside (well c.args.self.now.well) c.args.x c.args.y c.requires.x c.requires.y c.requires.places in
    omega (arith, inside, c.requires.input)

pub returns : goal.returns
returns g c =
    let inside = cut_inside (well c.args.self.now.well) c.args.x c.args.y c.requires.x c.requires.y c.requires.places in
    record {
      input_is = c.requires.input;
      inside = omega (arith, inside, c.requires.input);
      low_is = c.cofactors-first.ensures.low;
      high_is = c.cofactors-first.ensures.high;
      low_other_is = c.cofactors-second.ensures.low;
      high_other_is = c.cofactors-second.ensures.high;
    }
