use Rattle.std.proofs.Common.{◌≡◌, ◌<◌, Some, Ok, Err, refl, arith}
use Rattle.std.proofs.lemmas.Bool.{lt-ltb, le-ltb}
use Rattle.netlist.specs.Signals.{constant}
use Rattle.records.specs.declared.fault.TableFault.TheVariants.{NoSuchCode}
use Rattle.memo.specs.Memos.{Pairs}
use Rattle.records.specs.Faults.{constant_refusal}
use Rattle.records.specs.Outcomes.{Shape, Meaning}
use Rattle.diagram.specs.Views.{view, room}
use Rattle.records.proofs.Adds.{grows_refl}
use Rattle.records.proofs.Events.{kept_constant}
use Rattle.records.proofs.Shapes.{well}
use Rattle.diagram.proofs.Fulls.{constant_result, stopped, table_fits, passes, fails}
use Rattle.diagram.proofs.table.Table.constant.Goals as goal

pub returns-then-code-COUNT-clause-kept : goal.returns-then-code-COUNT-clause-kept
returns-then-code-COUNT-clause-kept g c P run =
    let o = g.G.Algebra.ops in
    let s = view c.args.self.now in
    let w = well c.args.self.now.well in
    let why : constant_refusal o c.args.code ≡ Some NoSuchCode = fails _ _ _ (le-ltb c.args.code o.count (omega (arith, g.G.Algebra.counts))) in
    kept_constant g.G.Algebra.laws w w (table_fits c.args.self.now) P P run _ (Err NoSuchCode) (stopped s P _ NoSuchCode _ refl why) c.args.code (λ _ _. tt)

pub returns : goal.returns
returns g c =
    let o = g.G.Algebra.ops in
    let laws = g.G.Algebra.laws in
    let s = view c.args.self.now in
    let w = well c.args.self.now.well in
    let v = c.args.code in
    let few : v < o.count = omega (arith, g.G.Algebra.counts) in
    let shape : (P : Pairs) → Shape s s P P (constant_refusal o v) (Ok v) = λ P. record { passed = passes _ _ _ (lt-ltb v o.count few); grows = grows_refl s; within = omega (arith, laws.sixteen_at_most) } in
    let meaning : (P : Pairs) → Meaning o (room c.args.self.now) s s P P (constant v) (Ok v) = λ P sound pairs. constant_result laws s P v few sound pairs in
    record {
      shape = shape;
      meaning = meaning;
      fits = table_fits c.args.self.now;
      kept = λ P run. kept_constant laws w w (table_fits c.args.self.now) P P run _ (Ok v) (shape P) v (meaning P);
    }
