use Rattle.std.proofs.Common.{◌≡◌, ◌≤◌, ◌++◌, length, take, Ok, Err, sym, ap₂, ap, ◌∙◌, rules, arith}
use Rattle.std.proofs.lemmas.List.{length-take, length-map, with_items_is}
use Rattle.std.proofs.lemmas.Option.{MatchOption-at_some}
use Rattle.std.proofs.lemmas.Result.{MatchResult-at_ok, IfOk-at_ok}
use Rattle.text.specs.declared.writer.Summary.TheVariants.{Report}
use Rattle.text.specs.Reports.{summary_row, findings_text}
use Rattle.comparison.specs.Compares.{row_findings}
use Rattle.diagram.specs.Views.{view}
use Rattle.text.proofs.Writing.{written_as}
use Rattle.text.proofs.Sure.{fault_written, summary_written, findings_written, report_written}
use Rattle.report.specs.Outcomes.{fault_place}
use Rattle.report.proofs.Comes.{started_comes}
use Rattle.report.proofs.workspace.Workspace.put_comparison.Goals as goal

pub unwrap-at-requires : goal.unwrap-at-requires
unwrap-at-requires g c = summary_written _ _ _ _ _ _ c.write_summary.ensures (let r = c.requires.room in omega arith)

pub unwrap-requires-in-Ok : goal.unwrap-requires-in-Ok
unwrap-requires-in-Ok g c =
    let r = c.requires.room in
    let found : length c.deref-in-Ok.result.now ≡ c.args.self.now.first.len = c.deref-in-Ok.ensures.len ∙ c.args.self.now.paired in
    findings_written _ _ _ _ _ _ c.write_summary.ensures _ c.unwrap-at.ensures _ _ _ _ _ c.write_findings.ensures c.requires.inputs
    (omega (arith, length-map (take c.in-Ok.pairs c.deref-in-Ok.result.now) (λ x. x.finding), length-take c.in-Ok.pairs c.deref-in-Ok.result.now))

pub unwrap-requires-in-Err : goal.unwrap-requires-in-Err
unwrap-requires-in-Err g c = fault_written _ _ _ _ _ _ (let r = c.requires.room in omega arith) c.write_fault.ensures

pub returns-in-Ok-clause-text : goal.returns-in-Ok-clause-text
returns-in-Ok-clause-text g c =
    let comes = started_comes g.G.Algebra.ops _ _ _ c.args.pair.first.inputs _ _ _ _ _ _ _ (view c.start.new.self) (view c.compare-outcome.new.table) _ _ _ _ _ c.compare-outcome.new.found
    c.deref.ensures.value c.deref-2.ensures.value (ap (λ z. z.inputs) (MatchResult-at_ok _ _ _ c.unwrap.ensures c.start.ensures.outcome).table) c.requires.inputs (c.deref_mut.ensures.len ∙ c.args.self.now.deep) c.requires.first c.requires.second
    (c.deref_mut-2.ensures.len ∙ c.args.self.now.long) (c.deref_mut-3.ensures.len ∙ c.args.self.now.paired) c.compare-outcome.auto.handles c.compare-outcome.auto.found c.start.ensures.room
    (IfOk-at_ok _ c.unwrap.ensures c.start.ensures.kept g.G.Algebra.ops) (Ok c.in-Ok.pairs) c.in-Ok.ensures.compared c.in-Ok.ensures.kept in
    written_as _ _ 0 _ _ _
    (ap₂ (λ u cs. summary_row c.in-Ok.pairs Report u ++ findings_text g.G.Algebra.ops.letter c.args.pair.first.inputs 0 (row_findings (take c.in-Ok.pairs cs))) c.used-used.ensures
    (c.deref-in-Ok.ensures.value ∙ with_items_is c.args.self.now.found c.compare-outcome.new.found (c.compare-outcome.auto.found ∙ c.deref_mut-3.ensures.len))
    ∙ sym comes.1)
    (report_written _ _ _ _ _ _ c.write_summary.ensures _ c.unwrap-at.ensures _ _ _ _ _ c.write_findings.ensures _ c.unwrap-in-Ok.ensures)

pub returns-in-Err-clause-text : goal.returns-in-Err-clause-text
returns-in-Err-clause-text g c =
    let comes = started_comes g.G.Algebra.ops _ _ _ c.args.pair.first.inputs _ _ _ _ _ _ _ (view c.start.new.self) (view c.compare-outcome.new.table) _ _ _ _ _ c.compare-outcome.new.found
    c.deref.ensures.value c.deref-2.ensures.value (ap (λ z. z.inputs) (MatchResult-at_ok _ _ _ c.unwrap.ensures c.start.ensures.outcome).table) c.requires.inputs (c.deref_mut.ensures.len ∙ c.args.self.now.deep) c.requires.first c.requires.second
    (c.deref_mut-2.ensures.len ∙ c.args.self.now.long) (c.deref_mut-3.ensures.len ∙ c.args.self.now.paired) c.compare-outcome.auto.handles c.compare-outcome.auto.found c.start.ensures.room
    (IfOk-at_ok _ c.unwrap.ensures c.start.ensures.kept g.G.Algebra.ops) (Err c.in-Err.fault) c.in-Err.ensures.compared c.in-Err.ensures.kept in
    let a = c.number.ensures in
    let b = c.netlist.ensures in
    let d : c.map-place.result ≡ fault_place c.in-Err.fault = search rules in
    written_as _ _ 0 _ _ _ (cc) (MatchOption-at_some _ _ _ c.unwrap-in-Err.ensures c.write_fault.ensures)
