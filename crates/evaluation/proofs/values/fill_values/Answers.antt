use Rattle.std.proofs.Common.{◌≡◌, ◌<◌, length, take, sym, refl, ◌∙◌, arith}
use Rattle.std.proofs.lemmas.List.{length-take-le, get_or_default}
use Rattle.netlist.specs.Lines.{line_signals}
use Rattle.netlist.proofs.FirstFaults.{line_accepted, fault_passed}
use Rattle.netlist.proofs.LineSignals.{signals_length}
use Rattle.netlist.proofs.Filled.{valued, filled_more, filled_all}
use Rattle.evaluation.proofs.values.fill_values.Goals as goal

pub loop-number-init : goal.loop-number-init
unfolding line_signals Rattle.netlist.specs.Lines.signals_after
loop-number-init g c = (refl, refl)

pub line_value-requires : goal.line_value-requires
line_value-requires g c =
    record {
      accepted = line_accepted g.G.Algebra.ops c.args.pattern.width c.args.lines.now c.loop-number.number _ c.loop-number-test.true (sym c.loop-number.invariant.1 ∙ c.requires.accepted);
      within = let h = c.loop-number.auto in omega arith;
    }

pub loop-number-preserved : goal.loop-number-preserved
loop-number-preserved g c =
    let o = g.G.Algebra.ops in
    let n = c.args.pattern.width in
    let p = c.args.pattern.number in
    let ls = c.args.lines.now in
    let i = c.loop-number.number in
    let h : i < length ls = c.loop-number-test.true in
    let ss = line_signals o n (take i ls) in
    let long : length ss ≡ i = signals_length o n (take i ls) ∙ length-take-le i ls (omega arith) in
    let read = get_or_default ls i _ _ h in
    let value = c.line_value.ensures ss long (valued p ss _ c.loop-number.values c.loop-number.invariant.0) in
    let accepted = line_accepted o n ls i _ h (sym c.loop-number.invariant.1 ∙ c.requires.accepted) in (
      filled_more o n p ls i _ c.args.values.now c.loop-number.values c.line_value.result h (let r = c.requires.room in omega arith) read c.loop-number.invariant.0 value,
      c.loop-number.invariant.1 ∙ fault_passed o n ls i _ h read accepted,
    )

pub returns : goal.returns
returns g c =
    filled_all g.G.Algebra.ops c.args.pattern.width c.args.pattern.number c.args.lines.now c.loop-number.number c.args.values.now c.loop-number.values (let t = c.loop-number-test.false in let k = c.loop-number.auto in omega arith) c.loop-number.invariant.0
