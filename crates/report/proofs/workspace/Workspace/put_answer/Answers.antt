use Rattle.std.proofs.Common.{sym, ap, ◌∙◌, refl, arith}
use Rattle.std.proofs.lemmas.List.{with_items_is}
use Rattle.std.proofs.lemmas.Option.{MatchOption-at_some}
use Rattle.text.specs.Answers.{algebra_of, misreading}
use Rattle.text.proofs.Writing.{written_as}
use Rattle.text.proofs.Sure.{fault_written}
use Rattle.text.proofs.Only.{fault_only, pair_only}
use Rattle.report.proofs.workspace.Workspace.put_answer.Goals as goal

pub unwrap-requires : goal.unwrap-requires
unwrap-requires c = fault_written _ _ _ _ _ _ (let r = c.requires in omega arith) c.write_fault.ensures

pub returns-in-Err-clause-text : goal.returns-in-Err-clause-text
returns-in-Err-clause-text c =
    let a = c.number.ensures in
    let b = c.netlist.ensures in
    let d = c.line.ensures in
    let only = fault_only _ _ _ _ _ _ _ c.deref_mut.ensures.len (c.deref_mut-2.ensures.len ∙ c.args.self.now.even) c.in-Err.fault c.in-Err.ensures _ refl in
    record { text = _; prints = only.0; only = only.1; written = written_as _ (misreading c.in-Err.fault) 0 _ _ _ (cc) (MatchOption-at_some _ _ _ c.unwrap.ensures c.write_fault.ensures) }

pub returns-in-Two-clause-text : goal.returns-in-Two-clause-text
returns-in-Two-clause-text c =
    let only = pair_only _ _ _ _ _ _ _ c.deref_mut.ensures.len (c.deref_mut-2.ensures.len ∙ c.args.self.now.even) c.in-Ok.pair c.in-Ok.ensures _ (sym (ap algebra_of c.in-Two.is)) _ _
    (with_items_is c.args.self.now.first c.read_pair.new.first (c.read_pair.auto.first ∙ c.deref_mut.ensures.len))
    (with_items_is c.args.self.now.second c.read_pair.new.second (c.read_pair.auto.second ∙ c.deref_mut-2.ensures.len)) _ refl in
    record { text = _; prints = only.0; only = only.1; written = c.put_comparison.ensures.text }

pub returns-in-Five-clause-text : goal.returns-in-Five-clause-text
returns-in-Five-clause-text c =
    let only = pair_only _ _ _ _ _ _ _ c.deref_mut.ensures.len (c.deref_mut-2.ensures.len ∙ c.args.self.now.even) c.in-Ok.pair c.in-Ok.ensures _ (sym (ap algebra_of c.in-Five.is)) _ _
    (with_items_is c.args.self.now.first c.read_pair.new.first (c.read_pair.auto.first ∙ c.deref_mut.ensures.len))
    (with_items_is c.args.self.now.second c.read_pair.new.second (c.read_pair.auto.second ∙ c.deref_mut-2.ensures.len)) _ refl in
    record { text = _; prints = only.0; only = only.1; written = c.put_comparison-in-Five.ensures.text }
