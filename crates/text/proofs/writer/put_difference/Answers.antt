use Rattle.std.proofs.Common.{refl}
use Rattle.text.proofs.Writing.{written_more, written_as}
use Rattle.text.proofs.Found.{difference_is, after_bits}
use Rattle.text.proofs.writer.put_difference.Goals as goal

pub put-requires : goal.put-requires
put-requires g c = after_bits _ c.args.at c.args.out.now _ _ _ _ c.args.width c.args.d.pattern c.put-lettered.ensures c.put_bits-ended.ensures refl c.requires

pub returns : goal.returns
returns g c =
    written_as _ _ c.args.at c.args.out.now c.put.new.out c.put.result
    (difference_is g.G.Algebra.ops.letter c.args.width c.args.d c.letter-grade.result c.letter-left.result c.letter-right.result c.letter-grade.ensures c.letter-left.ensures c.letter-right.ensures)
    (written_more _ c.args.at _ _ _ c.put-lettered.ensures _ _ _
    (written_more _ _ _ _ _ c.put_bits-ended.ensures _ _ _ c.put.ensures))
