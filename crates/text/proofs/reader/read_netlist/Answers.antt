use Rattle.std.proofs.Common.{Err, refl}
use Rattle.std.proofs.lemmas.Result.{err_from_is_err_and}
use Rattle.text.specs.declared.fault.ReadFault.TheVariants.{TooManyLines}
use Rattle.text.specs.Netlists.{values_number}
use Rattle.text.specs.Readings.{TooMany}
use Rattle.text.proofs.Tested.{allowed}
use Rattle.text.proofs.Begun.{refused_head}
use Rattle.text.proofs.Unique.{reads, whole_reading}
use Rattle.text.proofs.reader.read_netlist.Goals as goal

pub returns-in_err-header : goal.returns-in_err-header
returns-in_err-header c =
    let bytes = c.args.bytes.now in
    let x = c.in_err-header.ensures in
    let p = err_from_is_err_and c.from_residual.result c.from_residual.ensures.1 in
    let h = refused_head bytes c.args.from c.args.lines.now c.from_residual.result _ _ p.1 p.2 x in
    reads bytes c.args.from c.args.lines.now c.args.lines.now c.from_residual.result h

pub returns-then-header-lines : goal.returns-then-header-lines
returns-then-header-lines c =
    let q = c.in_ok-header.ensures in
    let h : TooMany c.args.bytes.now c.args.from c.args.lines.now c.args.lines.now =
    record {
      count = c.in_ok-header.header.lines;
      inputs = c.in_ok-header.header.inputs;
      values = values_number c.in_ok-header.header.values;
      head = q.0;
      allowed = allowed _ c.in_ok-header.header.values q.1;
      long = c.if-header-lines.true;
      kept = refl;
    } in
    reads c.args.bytes.now c.args.from c.args.lines.now c.args.lines.now (Err TooManyLines) h

pub returns : goal.returns
returns c =
    let q = c.in_ok-header.ensures in
    reads _ _ _ _ _ (whole_reading _ _ _ _ _ q.0 (allowed _ c.in_ok-header.header.values q.1) _ _ c.if-header-lines.false _ c.read_lines.ensures)
