use Rattle.std.proofs.Common.{sym, ap, ◌∙◌, arith}
use Rattle.std.proofs.lemmas.List.{with_items_is}
use Rattle.std.proofs.lemmas.Option.{MatchOption-at_some}
use Rattle.text.specs.Answers.{algebra_of, misreading}
use Rattle.text.proofs.Writing.{written_as}
use Rattle.text.proofs.Sure.{fault_written}
use Rattle.text.proofs.Only.{fault_only, pair_only}
use Rattle.patterns.proofs.Fronts.{written_front}
use Rattle.patterns.proofs.answer.Lists.put_answer.Goals as goal

pub unwrap-requires : goal.unwrap-requires
unwrap-requires c = fault_written _ _ _ _ _ _ (let e = c.deref_mut-in-Err.ensures.len in let w = c.args.self.now.wide in omega arith) c.write_fault.ensures

pub returns-in-Err : goal.returns-in-Err
returns-in-Err c =
    let a = c.number.ensures in
    let b = c.netlist.ensures in
    let d = c.line.ensures in
    fault_only _ _ _ _ _ _ _ (c.deref_mut.ensures.len ∙ c.args.self.now.few) (c.deref_mut-2.ensures.len ∙ c.args.self.now.even) c.in-Err.fault c.in-Err.ensures _
    (written_front c.args.self.now.out _ _ (misreading c.in-Err.fault) c.unwrap.result c.deref_mut-in-Err.ensures.len (written_as _ _ 0 _ _ _ (cc) (MatchOption-at_some _ _ _ c.unwrap.ensures c.write_fault.ensures)))

pub returns-in-Two : goal.returns-in-Two
returns-in-Two c =
    pair_only _ _ _ _ _ _ _ (c.deref_mut.ensures.len ∙ c.args.self.now.few) (c.deref_mut-2.ensures.len ∙ c.args.self.now.even) c.in-Ok.pair c.in-Ok.ensures _ (sym (ap algebra_of c.in-Two.is)) _ _
    (with_items_is c.args.self.now.first c.read_pair.new.first (c.read_pair.auto.first ∙ c.deref_mut.ensures.len))
    (with_items_is c.args.self.now.second c.read_pair.new.second (c.read_pair.auto.second ∙ c.deref_mut-2.ensures.len)) _ c.put_comparison.ensures

pub returns-in-Five : goal.returns-in-Five
returns-in-Five c =
    pair_only _ _ _ _ _ _ _ (c.deref_mut.ensures.len ∙ c.args.self.now.few) (c.deref_mut-2.ensures.len ∙ c.args.self.now.even) c.in-Ok.pair c.in-Ok.ensures _ (sym (ap algebra_of c.in-Five.is)) _ _
    (with_items_is c.args.self.now.first c.read_pair.new.first (c.read_pair.auto.first ∙ c.deref_mut.ensures.len))
    (with_items_is c.args.self.now.second c.read_pair.new.second (c.read_pair.auto.second ∙ c.deref_mut-2.ensures.len)) _ c.put_comparison-in-Five.ensures
