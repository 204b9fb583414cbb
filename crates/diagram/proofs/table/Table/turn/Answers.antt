use Rattle.std.proofs.Common.{◌≡◌, ◌≤◌, length, Some, Err, sym, ◌∙◌, subst, rules}
use Rattle.std.proofs.lemmas.Bool.{lt-ltb, le-ltb}
use Rattle.netlist.specs.Signals.{turned}
use Rattle.records.specs.declared.fault.TableFault.TheVariants.{FewRows, NoSuchHandle}
use Rattle.records.specs.Faults.{turn_refusal}
use Rattle.records.specs.Outcomes.{Shape, Meaning}
use Rattle.records.specs.Stores.{value}
use Rattle.diagram.specs.Views.{view, room}
use Rattle.records.proofs.Events.{kept_turn}
use Rattle.records.proofs.Shapes.{well}
use Rattle.diagram.proofs.Fulls.{stopped, stopped_means, table_fits, passes, fails}
use Rattle.diagram.proofs.table.Table.turn.Goals as goal

pub returns-in_err-check_rows-clause-kept : goal.returns-in_err-check_rows-clause-kept
returns-in_err-check_rows-clause-kept g c run =
    let o = g.G.Algebra.ops in
    let s = view c.args.self.now in
    let n = length c.args.rows.now in
    let w = well c.args.self.now.well in
    let P = g.M.Memo.recalls c.args.memo.now in
    let is : c.from_residual.result ≡ Err FewRows = search rules in
    let why : turn_refusal o s n c.args.x ≡ Some FewRows = fails _ _ _ (le-ltb s.inputs n c.in_err-check_rows.ensures.1) in
    kept_turn g.G.Algebra.laws w w (table_fits c.args.self.now) P P run _ _ (stopped s P _ FewRows _ is why) c.args.x (stopped_means o _ s P _ FewRows _ is tt)

pub returns-in_err-check_lawful-clause-kept : goal.returns-in_err-check_lawful-clause-kept
returns-in_err-check_lawful-clause-kept g c run =
    let o = g.G.Algebra.ops in
    let s = view c.args.self.now in
    let n = length c.args.rows.now in
    let w = well c.args.self.now.well in
    let P = g.M.Memo.recalls c.args.memo.now in
    let is : c.from_residual-in_err-check_lawful.result ≡ Err NoSuchHandle = search rules in
    let why : turn_refusal o s n c.args.x ≡ Some NoSuchHandle = passes _ _ _ (lt-ltb s.inputs n c.in_ok-check_rows.ensures) ∙ fails _ _ _ c.in_err-check_lawful.ensures.1 in
    kept_turn g.G.Algebra.laws w w (table_fits c.args.self.now) P P run _ _ (stopped s P _ NoSuchHandle _ is why) c.args.x (stopped_means o _ s P _ NoSuchHandle _ is tt)

pub returns : goal.returns
returns g c =
    let o = g.G.Algebra.ops in
    let s = view c.args.self.now in
    let t = view c.apply.new.self in
    let P = g.M.Memo.recalls c.args.memo.now in
    let Q = g.M.Memo.recalls c.apply.new.memo in
    let n = length c.args.rows.now in
    let x = c.args.x in
    let lawful = c.in_ok-check_lawful.ensures in
    let passed = passes _ _ _ (lt-ltb s.inputs n c.in_ok-check_rows.ensures) ∙ passes _ _ _ lawful in
    let shape : Shape s t P Q (turn_refusal o s n x) c.apply.result = subst (λ z. Shape s t P Q z c.apply.result) (sym passed) c.apply.ensures.shape in
    let meaning : Meaning o (room c.args.self.now) s t P Q (turned o (value o s x)) c.apply.result = λ sound pairs. c.apply.ensures.meaning sound pairs lawful lawful in
    let fits : t.used ≤ room c.args.self.now = subst (λ k. t.used ≤ k) c.apply.ensures.room (table_fits c.apply.new.self) in
    record {
      shape = shape;
      meaning = meaning;
      room = c.apply.ensures.room;
      fits = table_fits c.apply.new.self;
      kept = λ run. kept_turn g.G.Algebra.laws (well c.args.self.now.well) (well c.apply.new.self.well) fits P Q run _ c.apply.result shape x meaning;
    }
