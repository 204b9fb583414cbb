use Rattle.std.proofs.Common.{◌≡◌, ◌≤◌, length, Some, Err, sym, refl, ap, ◌∙◌, subst, rules}
use Rattle.std.specs.Result.{result_ok}
use Rattle.std.proofs.lemmas.Bool.{lt-ltb, le-ltb}
use Rattle.netlist.specs.Signals.{joined}
use Rattle.records.specs.declared.fault.TableFault.TheVariants.{FewRows, NoSuchHandle, NoSuchOperator}
use Rattle.records.specs.Faults.{join_refusal}
use Rattle.records.specs.Outcomes.{Shape, Means, Meaning}
use Rattle.records.specs.Stores.{value}
use Rattle.records.specs.Walks.{combined}
use Rattle.diagram.specs.Views.{view, room}
use Rattle.records.proofs.Events.{kept_join}
use Rattle.records.proofs.Shapes.{well}
use Rattle.diagram.proofs.Fulls.{stopped, stopped_means, own_operator, no_operator, operator_joins, table_fits, passes, fails}
use Rattle.diagram.proofs.table.Table.join.Goals as goal

pub returns-in_err-check_rows-clause-kept : goal.returns-in_err-check_rows-clause-kept
returns-in_err-check_rows-clause-kept g c run =
    let o = g.G.Algebra.ops in
    let s = view c.args.self.now in
    let n = length c.args.rows.now in
    let w = well c.args.self.now.well in
    let P = g.M.Memo.recalls c.args.memo.now in
    let is : c.from_residual.result ≡ Err FewRows = search rules in
    let why : join_refusal o s n c.args.op c.args.x c.args.y ≡ Some FewRows = fails _ _ _ (le-ltb s.inputs n c.in_err-check_rows.ensures.1) in
    kept_join g.G.Algebra.laws w w (table_fits c.args.self.now) P P run _ _ (stopped s P _ FewRows _ is why) c.args.op c.args.x c.args.y (stopped_means o _ s P _ FewRows _ is tt)

pub returns-in_err-operator : goal.returns-in_err-operator
returns-in_err-operator g c =
    let o = g.G.Algebra.ops in
    let s = view c.args.self.now in
    let n = length c.args.rows.now in
    let w = well c.args.self.now.well in
    let P = g.M.Memo.recalls c.args.memo.now in
    let is : c.from_residual-in_err-operator.result ≡ Err NoSuchOperator = search rules in
    let none = no_operator o c.args.op (sym c.operator.ensures ∙ c.ok_or.ensures.ok_part ∙ ap result_ok c.in_err-operator.was) in
    let why : join_refusal o s n c.args.op c.args.x c.args.y ≡ Some NoSuchOperator = passes _ _ _ (lt-ltb s.inputs n c.in_ok-check_rows.ensures) ∙ fails _ _ _ none in
    let shape = stopped s P _ NoSuchOperator _ is why in
    let meaning = stopped_means o (room c.args.self.now) s P (joined o c.args.op (value o s c.args.x) (value o s c.args.y)) NoSuchOperator _ is tt in
    record {
      shape = shape;
      meaning = meaning;
      room = refl;
      fits = table_fits c.args.self.now;
      kept = λ run. kept_join g.G.Algebra.laws w w (table_fits c.args.self.now) P P run _ _ shape c.args.op c.args.x c.args.y meaning;
    }

pub returns-in_err-check_lawful-clause-shape : goal.returns-in_err-check_lawful-clause-shape
returns-in_err-check_lawful-clause-shape g c =
    let o = g.G.Algebra.ops in
    let s = view c.args.self.now in
    let n = length c.args.rows.now in
    let P = g.M.Memo.recalls c.args.memo.now in
    let own = own_operator o c.args.op c.in_ok-operator.operator (sym c.operator.ensures ∙ c.ok_or.ensures.ok_part ∙ ap result_ok c.in_ok-operator.was) in
    let is : c.from_residual-in_err-check_lawful.result ≡ Err NoSuchHandle = search rules in
    let why : join_refusal o s n c.args.op c.args.x c.args.y ≡ Some NoSuchHandle =
    passes _ _ _ (lt-ltb s.inputs n c.in_ok-check_rows.ensures) ∙ passes _ _ _ own.0 ∙ fails _ _ _ c.in_err-check_lawful.ensures.1 in
    stopped s P _ NoSuchHandle _ is why

pub returns-in_err-check_lawful-clause-kept : goal.returns-in_err-check_lawful-clause-kept
returns-in_err-check_lawful-clause-kept g c run =
    let o = g.G.Algebra.ops in
    let s = view c.args.self.now in
    let n = length c.args.rows.now in
    let w = well c.args.self.now.well in
    let P = g.M.Memo.recalls c.args.memo.now in
    let own = own_operator o c.args.op c.in_ok-operator.operator (sym c.operator.ensures ∙ c.ok_or.ensures.ok_part ∙ ap result_ok c.in_ok-operator.was) in
    let is : c.from_residual-in_err-check_lawful.result ≡ Err NoSuchHandle = search rules in
    let why : join_refusal o s n c.args.op c.args.x c.args.y ≡ Some NoSuchHandle =
    passes _ _ _ (lt-ltb s.inputs n c.in_ok-check_rows.ensures) ∙ passes _ _ _ own.0 ∙ fails _ _ _ c.in_err-check_lawful.ensures.1 in
    kept_join g.G.Algebra.laws w w (table_fits c.args.self.now) P P run _ _ (stopped s P _ NoSuchHandle _ is why) c.args.op c.args.x c.args.y (stopped_means o _ s P _ NoSuchHandle _ is tt)

pub returns-in_err-check_lawful-2-clause-shape : goal.returns-in_err-check_lawful-2-clause-shape
returns-in_err-check_lawful-2-clause-shape g c =
    let o = g.G.Algebra.ops in
    let s = view c.args.self.now in
    let n = length c.args.rows.now in
    let P = g.M.Memo.recalls c.args.memo.now in
    let own = own_operator o c.args.op c.in_ok-operator.operator (sym c.operator.ensures ∙ c.ok_or.ensures.ok_part ∙ ap result_ok c.in_ok-operator.was) in
    let is : c.from_residual-in_err-check_lawful-2.result ≡ Err NoSuchHandle = search rules in
    let why : join_refusal o s n c.args.op c.args.x c.args.y ≡ Some NoSuchHandle =
    passes _ _ _ (lt-ltb s.inputs n c.in_ok-check_rows.ensures) ∙ passes _ _ _ own.0 ∙ passes _ _ _ c.in_ok-check_lawful.ensures ∙ fails _ _ _ c.in_err-check_lawful-2.ensures.1 in
    stopped s P _ NoSuchHandle _ is why

pub returns-in_err-check_lawful-2-clause-kept : goal.returns-in_err-check_lawful-2-clause-kept
returns-in_err-check_lawful-2-clause-kept g c run =
    let o = g.G.Algebra.ops in
    let s = view c.args.self.now in
    let n = length c.args.rows.now in
    let w = well c.args.self.now.well in
    let P = g.M.Memo.recalls c.args.memo.now in
    let own = own_operator o c.args.op c.in_ok-operator.operator (sym c.operator.ensures ∙ c.ok_or.ensures.ok_part ∙ ap result_ok c.in_ok-operator.was) in
    let is : c.from_residual-in_err-check_lawful-2.result ≡ Err NoSuchHandle = search rules in
    let why : join_refusal o s n c.args.op c.args.x c.args.y ≡ Some NoSuchHandle =
    passes _ _ _ (lt-ltb s.inputs n c.in_ok-check_rows.ensures) ∙ passes _ _ _ own.0 ∙ passes _ _ _ c.in_ok-check_lawful.ensures ∙ fails _ _ _ c.in_err-check_lawful-2.ensures.1 in
    kept_join g.G.Algebra.laws w w (table_fits c.args.self.now) P P run _ _ (stopped s P _ NoSuchHandle _ is why) c.args.op c.args.x c.args.y (stopped_means o _ s P _ NoSuchHandle _ is tt)

pub returns : goal.returns
returns g c =
    let o = g.G.Algebra.ops in
    let s = view c.args.self.now in
    let t = view c.apply.new.self in
    let P = g.M.Memo.recalls c.args.memo.now in
    let Q = g.M.Memo.recalls c.apply.new.memo in
    let n = length c.args.rows.now in
    let op = c.args.op in
    let x = c.args.x in
    let y = c.args.y in
    let own = own_operator o op c.in_ok-operator.operator (sym c.operator.ensures ∙ c.ok_or.ensures.ok_part ∙ ap result_ok c.in_ok-operator.was) in
    let left = c.in_ok-check_lawful.ensures in
    let right = c.in_ok-check_lawful-2.ensures in
    let passed = passes _ _ _ (lt-ltb s.inputs n c.in_ok-check_rows.ensures) ∙ passes _ _ _ own.0 ∙ passes _ _ _ left ∙ passes _ _ _ right in
    let shape : Shape s t P Q (join_refusal o s n op x y) c.apply.result = subst (λ z. Shape s t P Q z c.apply.result) (sym passed) c.apply.ensures.shape in
    let meaning : Meaning o (room c.args.self.now) s t P Q (joined o op (value o s x) (value o s y)) c.apply.result = λ sound pairs.
    subst (λ f. Means o (room c.args.self.now) s t Q f c.apply.result) (ap (λ k. combined o s k x y) own.1 ∙ operator_joins o s op x y own.0)
    (c.apply.ensures.meaning sound pairs left right) in
    let fits : t.used ≤ room c.args.self.now = subst (λ k. t.used ≤ k) c.apply.ensures.room (table_fits c.apply.new.self) in
    record {
      shape = shape;
      meaning = meaning;
      room = c.apply.ensures.room;
      fits = table_fits c.apply.new.self;
      kept = λ run. kept_join g.G.Algebra.laws (well c.args.self.now.well) (well c.apply.new.self.well) fits P Q run _ c.apply.result shape op x y meaning;
    }
