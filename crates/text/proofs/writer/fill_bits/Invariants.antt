use Rattle.std.proofs.Common.{◌≡◌, ◌+◌, map, take}
use Rattle.std.specs.List.{range_with_len}
use Rattle.netlist.specs.Signals.{bit}
use Rattle.text.proofs.writer.fill_bits.Given as goal

abbrev pub invariant-loop-input : goal.invariant-loop-input
invariant-loop-input l = take l.input l.digits ≡ map (λ i. 48 + bit l.width l.pattern i) (range_with_len 0 l.input)
