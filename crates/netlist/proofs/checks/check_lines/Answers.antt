use Rattle.std.proofs.Common.{rules, ◌≡◌, get_or, Some, None, sym, ap, ◌∙◌}
use Rattle.std.specs.Prelude.{MatchResult}
use Rattle.std.proofs.lemmas.Result.{MatchResult-at_ok, MatchResult-at_err}
use Rattle.std.proofs.lemmas.List.{get_or_default}
use Rattle.netlist.specs.declared.line.Line.{Line}
use Rattle.netlist.specs.Faults.{NetlistFault, line_fault, first_fault}
use Rattle.netlist.proofs.FirstFaults.{fault_passed, fault_found, fault_none}
use Rattle.netlist.proofs.checks.check_lines.Goals as goal

pub returns-in_err-map_err : goal.returns-in_err-map_err
returns-in_err-map_err g c =
    let o = g.G.Algebra.ops in
    let n = c.args.inputs in
    let ls = c.args.lines.now in
    let i = c.loop-number.number-counter in
    let h = c.loop-number-test.true in
    let blank : Line = record { kind = 0; first = 0; second = 0 } in
    let f : NetlistFault = c.in_err-map_err.field-0.0 in
    let told : MatchResult c.map_err.result (λ _. line_fault o n i (get_or ls i blank) ≡ None) (λ e. (line_fault o n i (get_or ls i blank) ≡ Some e.fault) × (e.line ≡ i)) = search rules in
    let q = MatchResult-at_err _ _ f c.in_err-map_err.was told in
    let found : first_fault o n 0 ls ≡ Some f = c.loop-number.invariant ∙ fault_found o n ls i _ f.fault h (get_or_default ls i _ _ h) q.0 ∙ ap (λ k. Some (record { line = k; fault = f.fault })) (sym q.1) in
    search (rules, found)

pub loop-number-preserved : goal.loop-number-preserved
loop-number-preserved g c =
    let o = g.G.Algebra.ops in
    let n = c.args.inputs in
    let ls = c.args.lines.now in
    let i = c.loop-number.number-counter in
    let h = c.loop-number-test.true in
    let blank : Line = record { kind = 0; first = 0; second = 0 } in
    let told : MatchResult c.map_err.result (λ _. line_fault o n i (get_or ls i blank) ≡ None) (λ e. (line_fault o n i (get_or ls i blank) ≡ Some e.fault) × (e.line ≡ i)) = search rules in
    c.loop-number.invariant ∙ fault_passed o n ls i _ h (get_or_default ls i _ _ h) (MatchResult-at_ok _ _ c.in_ok-map_err.field-0 c.in_ok-map_err.was told)

pub returns : goal.returns
returns g c = c.loop-number.invariant ∙ fault_none g.G.Algebra.ops c.args.inputs c.args.lines.now c.loop-number.number-counter c.loop-number-test.false
