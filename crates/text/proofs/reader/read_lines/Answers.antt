use Rattle.std.proofs.Common.{◌≡◌, ◌+◌, ◌*◌, take, sym, subst, refl, ◌∙◌, arith, rules}
use Rattle.std.proofs.lemmas.List.{length-take-le, set-get_or}
use Rattle.std.proofs.lemmas.Result.{MatchResult-weaker, MatchResult-at_ok, MatchResult-at_err, err_from_is_err_and}
use Rattle.text.specs.declared.fault.ReadFault.TheVariants.{AtLine}
use Rattle.text.specs.Rows.{row_at}
use Rattle.text.specs.Faults.{FirstFailed}
use Rattle.text.specs.Netlists.{Readable, line_row, LineTest, values_number}
use Rattle.text.specs.Readings.{Reading}
use Rattle.text.proofs.Tested.{allowed}
use Rattle.text.proofs.Begun.{head_fits, line_fits, begins_none, begins_set, stands, filled, rest_set, refused_at}
use Rattle.text.proofs.Steps.{mapped_ok, mapped_err}
use Rattle.text.proofs.reader.read_lines.Goals as goal

pub loop-due-init : goal.loop-due-init
loop-due-init c =
    let h = c.requires.head in
    (begins_none c.args.bytes.now c.args.from _ _ _ h (allowed _ c.args.header.values c.requires.few), head_fits c.args.bytes.now c.args.from _ _ _ h, refl)

pub loop-due-preserved : goal.loop-due-preserved
loop-due-preserved c =
    let bytes = c.args.bytes.now in
    let d = c.loop-due.due in
    let at = c.args.from + 25 * (d + 1) in
    let l = c.in_ok-line.field-0 in
    let i = c.loop-due.invariant in
    let q = MatchResult-at_ok (λ l. Readable l × (row_at bytes at ≡ line_row d l)) (FirstFailed (LineTest d (row_at bytes at))) l
    (mapped_ok _ c.read_line.result l c.in_ok-line.ensures.cases) c.read_line.ensures in
    let f = line_fits bytes at d l q.0 q.1 in
    (begins_set bytes c.args.from _ _ _ c.loop-due.lines d at l (omega arith) i.0 q.0 refl q.1, omega arith, rest_set c.args.lines.now c.loop-due.lines d l i.2)

pub returns-in_err-line : goal.returns-in_err-line
returns-in_err-line c =
    let bytes = c.args.bytes.now in
    let d = c.loop-due.due in
    let at = c.args.from + 25 * (d + 1) in
    let i = c.loop-due.invariant in
    let x = mapped_err (λ e d. d ≡ AtLine c.loop-due.due e) c.read_line.result c.in_err-line.field-0.0 (MatchResult-weaker c.read_line.result c.in_err-line.ensures.cases (λ y q. q) (λ e q. search rules)) in
    let p = err_from_is_err_and c.from_residual.result c.from_residual.ensures.1 in
    let h = refused_at bytes c.args.from c.args.lines.now c.loop-due.lines _ _ d x.0 p.1 (p.2 ∙ x.2)
    (record {
      count = c.args.header.lines;
      inputs = c.args.header.inputs;
      values = values_number c.args.header.values;
      lines = take d c.loop-due.lines;
      begins = i.0;
      turn = length-take-le d c.loop-due.lines (omega arith);
      counted = omega arith;
      room = omega arith;
      failed = MatchResult-at_err (λ l. Readable l × (row_at bytes at ≡ line_row d l)) (FirstFailed (LineTest d (row_at bytes at))) x.0 x.1 c.read_line.ensures;
      filled = filled c.args.lines.now c.loop-due.lines d (omega arith) c.loop-due.auto.lines i.2;
    }) in
    subst (λ ls. Reading bytes c.args.from c.args.lines.now ls c.from_residual.result) (sym (set-get_or c.loop-due.lines d _)) h

pub returns : goal.returns
returns c =
    let i = c.loop-due.invariant in
    let d = c.loop-due.due in
    let e : d ≡ c.args.header.lines = omega arith in
    let k = length-take-le d c.loop-due.lines (omega arith) in
    record {
      lines = take d c.loop-due.lines;
      counted = k ∙ e;
      stands = stands c.args.bytes.now c.args.from _ _ _ (take d c.loop-due.lines) (k ∙ e) i.0;
      filled = filled c.args.lines.now c.loop-due.lines d (omega arith) c.loop-due.auto.lines i.2;
    }
