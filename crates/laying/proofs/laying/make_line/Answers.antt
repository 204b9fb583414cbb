use Rattle.std.proofs.Common.{◌≡◌, ◌≤◌, length, get_or, take, sym, refl, ap, ◌∙◌, subst, inl, inr, arith}
use Rattle.std.proofs.lemmas.List.{length-take-le, get_or-take}
use Rattle.diagram.specs.Views.{view}
use Rattle.records.specs.Stores.{value}
use Rattle.records.specs.Faults.{input_refusal, constant_refusal, turn_refusal, join_refusal}
use Rattle.records.proofs.Adds.{grows_refl}
use Rattle.records.proofs.Shapes.{well}
use Rattle.diagram.proofs.Fulls.{table_fits}
use Rattle.netlist.specs.Kinds.{kind_number}
use Rattle.netlist.specs.Signals.{input, constant, turned, joined}
use Rattle.laying.proofs.Lines.{kind_there, kind_is, operator_between, input_inside, code_inside, one_earlier, both_earlier, operator_known, one_operand, two_operands, input_refuses, constant_refuses, turn_refuses, join_refuses, outcome, signal_input, signal_constant, signal_turned, signal_joined, earlier_signal, made_kept, out_kept}
use Rattle.laying.proofs.laying.make_line.Goals as goal

pub unwrap-requires : goal.unwrap-requires
unwrap-requires g c = kind_there g.G.Algebra.ops _ _ c.args.line c.requires.accepted c.try_from.result c.try_from.ensures

pub overflow_cast-line : goal.overflow_cast-line
overflow_cast-line g c =
    let few = (well c.args.table.now.well).few in
    let kind : c.args.line.kind ≡ 0 = kind_is g.G.Algebra.ops _ _ c.args.line c.requires.accepted c.try_from.result c.unwrap.result c.try_from.ensures c.unwrap.ensures ∙ ap kind_number c.in-Input.is in
    let inside = input_inside g.G.Algebra.ops _ _ c.args.line c.requires.accepted kind in
    omega arith

pub returns-in-Input : goal.returns-in-Input
returns-in-Input g c =
    let o = g.G.Algebra.ops in
    let kind : c.args.line.kind ≡ 0 = kind_is g.G.Algebra.ops _ _ c.args.line c.requires.accepted c.try_from.result c.unwrap.result c.try_from.ensures c.unwrap.ensures ∙ ap kind_number c.in-Input.is in
    let s = view c.args.table.now in
    let l = c.args.line in
    let told = c.input.ensures in
    record {
      outcome = outcome o (take c.args.number c.args.handles.now) s (view c.input.new.self) (g.M.Memo.recalls c.args.memo.now) (g.M.Memo.recalls c.input.new.memo) (input_refusal s l.first) c.input.result told.shape (input_refuses o s (take c.args.number c.args.handles.now) l.first (input_inside o _ _ l c.requires.accepted kind));
      room = told.room;
      kept =
          made_kept g.G.Algebra.laws (well c.args.table.now.well) (well c.input.new.self.well) (subst (λ n. (view c.input.new.self).used ≤ n) told.room told.fits) (g.M.Memo.recalls c.args.memo.now) (g.M.Memo.recalls c.input.new.memo) (input_refusal s l.first) c.input.result told.shape (take c.args.number c.args.handles.now) l
          (input s.inputs l.first) (signal_input o s.inputs _ l kind) told.meaning;
    }

pub returns-in-Const : goal.returns-in-Const
returns-in-Const g c =
    let o = g.G.Algebra.ops in
    let kind : c.args.line.kind ≡ 1 = kind_is g.G.Algebra.ops _ _ c.args.line c.requires.accepted c.try_from.result c.unwrap.result c.try_from.ensures c.unwrap.ensures ∙ ap kind_number c.in-Const.is in
    let s = view c.args.table.now in
    let l = c.args.line in
    let P = g.M.Memo.recalls c.args.memo.now in
    let w = well c.args.table.now.well in
    let told = c.constant.ensures in
    record {
      outcome = outcome o (take c.args.number c.args.handles.now) s s P P (constant_refusal o l.first) c.constant.result (told.shape P) (constant_refuses o s (take c.args.number c.args.handles.now) l.first (code_inside o _ _ l c.requires.accepted (λ e. absurd (omega arith)) kind));
      room = refl;
      kept =
          made_kept g.G.Algebra.laws w w told.fits P P (constant_refusal o l.first) c.constant.result (told.shape P) (take c.args.number c.args.handles.now) l
          (constant l.first) (signal_constant o s.inputs _ l kind) (told.meaning P);
    }

pub returns-in-Out : goal.returns-in-Out
returns-in-Out g c =
    let o = g.G.Algebra.ops in
    let kind : c.args.line.kind ≡ 8 = kind_is g.G.Algebra.ops _ _ c.args.line c.requires.accepted c.try_from.result c.unwrap.result c.try_from.ensures c.unwrap.ensures ∙ ap kind_number c.in-Out.is in
    let l = c.args.line in
    record {
      outcome = grows_refl (view c.args.table.now);
      room = refl;
      kept =
          out_kept g.G.Algebra.laws (well c.args.table.now.well) (table_fits c.args.table.now) (g.M.Memo.recalls c.args.memo.now) c.args.handles.now c.args.number l c.requires.within kind
          (one_earlier o _ _ l c.requires.accepted (λ e. absurd (omega arith)) (λ e. absurd (omega arith)) (one_operand l.kind (inr kind)));
    }

pub returns-in-Not : goal.returns-in-Not
returns-in-Not g c =
    let o = g.G.Algebra.ops in
    let kind : c.args.line.kind ≡ 2 = kind_is g.G.Algebra.ops _ _ c.args.line c.requires.accepted c.try_from.result c.unwrap.result c.try_from.ensures c.unwrap.ensures ∙ ap kind_number c.in-Not.is in
    let s = view c.args.table.now in
    let l = c.args.line in
    let xs = c.args.handles.now in
    let told = c.turn.ensures in
    let earlier = one_earlier o _ _ l c.requires.accepted (λ e. absurd (omega arith)) (λ e. absurd (omega arith)) (one_operand l.kind (inl kind)) in
    record {
      outcome = outcome o (take c.args.number c.args.handles.now) s (view c.turn.new.self) (g.M.Memo.recalls c.args.memo.now) (g.M.Memo.recalls c.turn.new.memo) (turn_refusal o s (length c.args.rows.now) (get_or xs l.first 0)) c.turn.result told.shape (turn_refuses o s (take c.args.number xs) (length c.args.rows.now) l.first (get_or xs l.first 0) c.requires.rows (let n = length-take-le c.args.number xs c.requires.within in omega arith) (sym (get_or-take c.args.number xs l.first 0 earlier)));
      room = told.room;
      kept =
          made_kept g.G.Algebra.laws (well c.args.table.now.well) (well c.turn.new.self.well) (subst (λ n. (view c.turn.new.self).used ≤ n) told.room told.fits) (g.M.Memo.recalls c.args.memo.now) (g.M.Memo.recalls c.turn.new.memo) (turn_refusal o s (length c.args.rows.now) (get_or xs l.first 0)) c.turn.result told.shape (take c.args.number xs) l
          (turned o (value o s (get_or xs l.first 0))) (signal_turned o s.inputs _ l kind (value o s (get_or xs l.first 0)) (earlier_signal o s xs c.args.number l.first c.requires.within earlier)) told.meaning;
    }

pub returns-in-And : goal.returns-in-And
returns-in-And g c =
    let o = g.G.Algebra.ops in
    let kind : c.args.line.kind ≡ kind_number c.unwrap.result = kind_is g.G.Algebra.ops _ _ c.args.line c.requires.accepted c.try_from.result c.unwrap.result c.try_from.ensures c.unwrap.ensures in
    let between = operator_between c.unwrap.result c.in-And.is in
    let s = view c.args.table.now in
    let l = c.args.line in
    let xs = c.args.handles.now in
    let told = c.join.ensures in
    let x = get_or xs l.first 0 in
    let y = get_or xs l.second 0 in
    let earlier = both_earlier o _ _ l c.requires.accepted (λ e. absurd (omega arith)) (λ e. absurd (omega arith)) (two_operands l.kind (λ e. absurd (omega arith)) (λ e. absurd (omega arith))) in
    let there = operator_known o _ _ l c.requires.accepted (λ e. absurd (omega arith)) (λ e. absurd (omega arith)) (λ e. absurd (omega arith)) (λ e. absurd (omega arith)) in
    record {
      outcome = outcome o (take c.args.number c.args.handles.now) s (view c.join.new.self) (g.M.Memo.recalls c.args.memo.now) (g.M.Memo.recalls c.join.new.memo) (join_refusal o s (length c.args.rows.now) l.kind x y) c.join.result told.shape (join_refuses o s (take c.args.number xs) (length c.args.rows.now) l.kind l.first l.second x y c.requires.rows there (let a = earlier.0 in let n = length-take-le c.args.number xs c.requires.within in omega arith) (sym (get_or-take c.args.number xs l.first 0 earlier.0)) (let a = earlier.1 in let n = length-take-le c.args.number xs c.requires.within in omega arith) (sym (get_or-take c.args.number xs l.second 0 earlier.1)));
      room = told.room;
      kept =
          made_kept g.G.Algebra.laws (well c.args.table.now.well) (well c.join.new.self.well) (subst (λ n. (view c.join.new.self).used ≤ n) told.room told.fits) (g.M.Memo.recalls c.args.memo.now) (g.M.Memo.recalls c.join.new.memo) (join_refusal o s (length c.args.rows.now) l.kind x y) c.join.result told.shape (take c.args.number xs) l
          (joined o l.kind (value o s x) (value o s y))
          (signal_joined o s.inputs _ l (λ e. absurd (omega arith)) (λ e. absurd (omega arith)) (λ e. absurd (omega arith)) (λ e. absurd (omega arith)) (value o s x) (value o s y)
          (earlier_signal o s xs c.args.number l.first c.requires.within earlier.0) (earlier_signal o s xs c.args.number l.second c.requires.within earlier.1))
          told.meaning;
    }
