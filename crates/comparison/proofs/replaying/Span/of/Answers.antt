use Rattle.std.proofs.Common.{◌+◌, ◌-◌, arith}
use Rattle.comparison.proofs.Reruns.{span_cut}
use Rattle.comparison.proofs.replaying.Span.of.Goals as goal

pub returns : goal.returns
returns c =
    span_cut c.args.lines.now c.args.self.from c.args.self.count c.min-from.result c.min-count.result (c.min-from.result + c.min-count.result - c.min-from.result)
    c.min-from.ensures c.min-count.ensures (omega arith)
