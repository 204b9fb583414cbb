use Rattle.std.proofs.Common.{refl, ap, ◌∙◌, arith}
use Rattle.std.proofs.lemmas.Bool.Decides.{not_from_Decides}
use Rattle.text.specs.Rows.{number_field}
use Rattle.text.proofs.Writing.{written_more, written_as}
use Rattle.text.proofs.Found.{summary_size, summary_is}
use Rattle.text.proofs.writer.write_summary.Goals as goal

pub returns-then-not-has_room : goal.returns-then-not-has_room
returns-then-not-has_room c =
    let n = not_from_Decides c.has_room.result c.has_room.ensures c.if-not-has_room.true in
    let s = summary_size c.args.pairs c.args.word c.args.number in
    record { long = omega arith; kept = refl }

pub returns : goal.returns
returns c =
    written_as _ _ c.args.at c.args.out.now c.put.new.out c.put.result
    (summary_is c.columns.result c.word.result c.operand_bytes.result c.args.pairs c.args.word c.args.number (c.columns.ensures ∙ ap number_field c.from.ensures) c.word.ensures c.operand_bytes.ensures)
    (written_more _ c.args.at _ _ _ c.put-spaced.ensures _ _ _
    (written_more _ _ _ _ _ c.put-worded.ensures _ _ _
    (written_more _ _ _ _ _ c.put-counted.ensures _ _ _
    (written_more _ _ _ _ _ c.put-ended.ensures _ _ _ c.put.ensures))))
