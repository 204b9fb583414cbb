use Rattle.std.proofs.Common.{◌≡◌, length, take, ◌∙◌, arith}
use Rattle.std.proofs.lemmas.List.{length-take, length-map, map-id, with_items_is}
use Rattle.text.proofs.Sure.{summary_written, findings_written, report_written}
use Rattle.patterns.proofs.Verdicts.{small_line, fault_printed, too_many_printed, report_printed}
use Rattle.patterns.proofs.Fronts.{kept_front, written_front}
use Rattle.patterns.proofs.answer.Lists.put_comparison.Goals as goal

pub put_fault-requires : goal.put_fault-requires
put_fault-requires g c = small_line _ _ _ _ _ _ _ _ c.deref.ensures.value c.deref-2.ensures.value _ _ c.requires.first c.requires.second _ c.in-Err.ensures

pub returns-in-Ok : goal.returns-in-Ok
returns-in-Ok g c =
    kept_front c.args.self.now.out _ _ _ (c.put_too_many.auto.out ∙ c.deref_mut.ensures.len) c.put_too_many.ensures
    ∙ too_many_printed _ _ _ _ _ _ _ _ c.deref.ensures.value c.deref-2.ensures.value _ _ c.in-Ok.ensures.1 c.if-inputs-gt-INPUTS.true

pub returns-in-Err : goal.returns-in-Err
returns-in-Err g c =
    c.put_fault.ensures
    ∙ fault_printed _ _ _ _ _ _ _ _ c.deref.ensures.value c.deref-2.ensures.value _ _ c.requires.first c.requires.second c.requires.inputs (c.len.ensures ∙ c.args.self.now.valued) (c.len-then-inputs-gt-INPUTS.ensures ∙ c.args.self.now.paired) _ c.in-Err.ensures

pub unwrap-at-requires : goal.unwrap-at-requires
unwrap-at-requires g c = summary_written _ _ _ _ _ _ c.write_summary.ensures (let e = c.as_mut_slice-out.ensures.len in let w = c.args.self.now.wide in omega arith)

pub unwrap-requires : goal.unwrap-requires
unwrap-requires g c =
    let room : length c.as_mut_slice-out.result.now ≡ 40000 = c.as_mut_slice-out.ensures.len ∙ c.args.self.now.wide in
    let rows : length c.deref-in-Ok-compare_by_patterns.result.now ≡ 512 = c.deref-in-Ok-compare_by_patterns.ensures.len ∙ c.args.self.now.paired in
    findings_written _ _ _ _ _ _ c.write_summary.ensures _ c.unwrap-at.ensures _ _ _ _ _ c.write_findings.ensures c.requires.inputs (omega (arith, length-map (take c.in-Ok-compare_by_patterns.pairs c.deref-in-Ok-compare_by_patterns.result.now) (λ f. f), length-take c.in-Ok-compare_by_patterns.pairs c.deref-in-Ok-compare_by_patterns.result.now))

pub put_fault-requires-in-Err-compare_by_patterns : goal.put_fault-requires-in-Err-compare_by_patterns
put_fault-requires-in-Err-compare_by_patterns g c =
    small_line _ _ _ _ _ _ _ _ c.deref.ensures.value c.deref-2.ensures.value _ _ c.requires.first c.requires.second _ c.in-Err-compare_by_patterns.ensures.answer.0

pub returns-in-Ok-compare_by_patterns : goal.returns-in-Ok-compare_by_patterns
returns-in-Ok-compare_by_patterns g c =
    let ok = c.in-Ok-compare_by_patterns.ensures.answer in
    let found = c.deref-in-Ok-compare_by_patterns.ensures.value ∙ with_items_is c.args.self.now.findings c.compare_by_patterns.new.found (c.compare_by_patterns.auto.found ∙ c.deref_mut-3.ensures.len) in
    written_front c.args.self.now.out _ _ _ _ c.as_mut_slice-out.ensures.len (report_written _ _ _ _ _ _ c.write_summary.ensures _ c.unwrap-at.ensures _ _ _ _ _ c.write_findings.ensures _ c.unwrap.ensures)
    ∙ report_printed _ _ _ _ _ _ _ _ c.deref.ensures.value c.deref-2.ensures.value _ _ c.if-inputs-gt-INPUTS.false _ _ _ (ok.0, ok.1, found ∙ ok.2) _ (map-id _)

pub returns-in-Err-compare_by_patterns : goal.returns-in-Err-compare_by_patterns
returns-in-Err-compare_by_patterns g c =
    c.put_fault-in-Err-compare_by_patterns.ensures
    ∙ fault_printed _ _ _ _ _ _ _ _ c.deref.ensures.value c.deref-2.ensures.value _ _ c.requires.first c.requires.second c.requires.inputs (c.deref_mut-2.ensures.len ∙ c.args.self.now.valued) (c.deref_mut-3.ensures.len ∙ c.args.self.now.paired) _ c.in-Err-compare_by_patterns.ensures.answer.0
