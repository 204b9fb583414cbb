use Rattle.std.proofs.Common.{◌≡◌, ◌<◌, ◌≤◌, Some, Err, sym, refl, ◌∙◌, subst, arith}
use Rattle.std.proofs.lemmas.Bool.{lt-ltb, le-ltb}
use Rattle.netlist.specs.Signals.{input}
use Rattle.records.specs.declared.fault.TableFault.TheVariants.{NoSuchInput}
use Rattle.records.specs.Faults.{input_refusal}
use Rattle.records.specs.Makings.{MakeShape, MakeMeans}
use Rattle.records.specs.Outcomes.{Shape, Meaning}
use Rattle.records.specs.Walks.{RanOut}
use Rattle.diagram.specs.Views.{view, room}
use Rattle.records.proofs.Events.{kept_input}
use Rattle.records.proofs.Shapes.{well}
use Rattle.diagram.proofs.Fulls.{settled_shape, settled_means, stopped, bit_lawful, input_result, input_out, table_fits, passes, fails}
use Rattle.diagram.proofs.table.Table.input.Goals as goal

pub returns-then-input-inputs-clause-kept : goal.returns-then-input-inputs-clause-kept
returns-then-input-inputs-clause-kept g c run =
    let s = view c.args.self.now in
    let w = well c.args.self.now.well in
    let P = g.M.Memo.recalls c.args.memo.now in
    let why : input_refusal s c.args.input ≡ Some NoSuchInput = fails _ _ _ (le-ltb c.args.input s.inputs (omega (arith, c.inputs.ensures))) in
    kept_input g.G.Algebra.laws w w (table_fits c.args.self.now) P P run _ (Err NoSuchInput) (stopped s P _ NoSuchInput _ refl why) c.args.input (λ _ _. tt)

pub returns : goal.returns
returns g c =
    let o = g.G.Algebra.ops in
    let laws = g.G.Algebra.laws in
    let s = view c.args.self.now in
    let t = view c.make-made.new.self in
    let u = view c.settle.new.self in
    let w = well c.args.self.now.well in
    let P = g.M.Memo.recalls c.args.memo.now in
    let R = g.M.Memo.recalls c.settle.new.memo in
    let n = room c.args.self.now in
    let i = c.args.input in
    let made = c.make-made.ensures in
    let inside : i < s.inputs = omega (arith, c.inputs.ensures) in
    let low = bit_lawful laws s 0 (omega arith) in
    let high = bit_lawful laws s 1 (omega arith) in
    let passed = passes _ _ _ (lt-ltb i s.inputs inside) in
    let shape : Shape s u P R (input_refusal s i) c.settle.result = subst (λ z. Shape s u P R z c.settle.result) (sym passed)
    (settled_shape s t u P P R c.used-used.result c.make-made.result _ c.used-used.ensures made.grows
    (λ h e. (subst (MakeShape s t i) e made.shape).within)
    c.settle.ensures.outcome) in
    let meaning : Meaning o n s u P R (input s.inputs i) c.settle.result = λ sound pairs.
    settled_means laws w (well c.make-made.new.self.well) n u P R (input s.inputs i) c.used-used.result c.make-made.result _ made.grows
    (λ h e. input_result w made.grows P i h pairs (subst (MakeMeans o n s t i 0 1) e (made.meaning sound low high)))
    (λ f e. subst (λ z. RanOut o n s z (input s.inputs i)) (sym (subst (MakeShape s t i) e made.shape)) (input_out n s i sound (subst (MakeMeans o n s t i 0 1) e (made.meaning sound low high))))
    c.settle.ensures.outcome in
    let room_is = c.settle.ensures.room ∙ made.room in
    let fits : u.used ≤ n = subst (λ k. u.used ≤ k) room_is (table_fits c.settle.new.self) in
    record {
      shape = shape;
      meaning = meaning;
      room = room_is;
      fits = table_fits c.settle.new.self;
      kept = λ run. kept_input laws w (well c.settle.new.self.well) fits P R run _ c.settle.result shape i meaning;
    }
