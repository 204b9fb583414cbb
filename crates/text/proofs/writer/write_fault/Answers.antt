use Rattle.std.proofs.Common.{Some, refl, ap, ◌∙◌, arith}
use Rattle.std.proofs.lemmas.Bool.Decides.{not_from_Decides}
use Rattle.text.specs.Rows.{number_field, operand_field}
use Rattle.text.proofs.Writing.{written_more, written_as}
use Rattle.text.proofs.Found.{fault_size, fault_is}
use Rattle.text.proofs.writer.write_fault.Goals as goal

pub returns-then-not-has_room : goal.returns-then-not-has_room
returns-then-not-has_room c =
    let n = not_from_Decides c.has_room.result c.has_room.ensures c.if-not-has_room.true in
    let s = fault_size c.args.number c.args.netlist c.args.line in
    record { long = omega arith; kept = refl }

pub returns : goal.returns
returns c =
    written_as _ _ c.args.at c.args.out.now c.put.new.out c.put.result
    (fault_is c.columns.result c.operand_bytes.result c.operand_bytes-2.result c.args.number c.args.netlist c.args.line (c.columns.ensures ∙ ap number_field c.from.ensures) (c.operand_bytes.ensures ∙ ap (λ n. operand_field (Some n)) c.from-2.ensures) c.operand_bytes-2.ensures)
    (written_more _ c.args.at _ _ _ c.put-spaced.ensures _ _ _
    (written_more _ _ _ _ _ c.put-worded.ensures _ _ _
    (written_more _ _ _ _ _ c.put-first.ensures _ _ _
    (written_more _ _ _ _ _ c.put-ended.ensures _ _ _ c.put.ensures))))
