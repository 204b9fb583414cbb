use Rattle.std.proofs.Common.{◌≡◌, ◌∙◌, subst, ⊎_elim, arith}
use Rattle.std.proofs.lemmas.Option.{MatchOption-at_some}
use Rattle.text.specs.declared.fault.RowFault.TheVariants.{Field, Limits}
use Rattle.text.specs.declared.header.Values.TheVariants.{Two, Five}
use Rattle.text.specs.Rows.{row_at, word_of}
use Rattle.text.specs.Netlists.{HeadRow, head_word}
use Rattle.text.proofs.Steps.{missing, not_unlike}
use Rattle.text.proofs.Tested.{no_count, no_inputs, no_values, head_fails_field, is_head, head_fails_limits}
use Rattle.text.proofs.row.read_head.Goals as goal

pub returns-in_err-lines : goal.returns-in_err-lines
returns-in_err-lines c =
    let row = c.in_ok-row.row.now in
    let f = MatchOption-at_some _ _ c.in_ok-row.row c.in_ok-row.ensures.ok_part c.row_at.ensures in
    missing _ _ _ _ Field _ _ c.in_err-lines.ensures.value c.from_residual-in_err-lines.ensures.1 c.read_number.ensures
    (let w : word_of row ≡ head_word = not_unlike (word_of row) c.as_slice.result.now c.ne.result c.ne.ensures c.if-ne.false ∙ c.as_slice.ensures in λ n. head_fails_field row _ f.0 f.1 w (no_count row n))

pub returns-in_err-inputs : goal.returns-in_err-inputs
returns-in_err-inputs c =
    let row = c.in_ok-row.row.now in
    let f = MatchOption-at_some _ _ c.in_ok-row.row c.in_ok-row.ensures.ok_part c.row_at.ensures in
    missing _ _ _ _ Field _ _ c.in_err-inputs.ensures.value c.from_residual-in_err-inputs.ensures.1 c.read_number-2.ensures
    (let w : word_of row ≡ head_word = not_unlike (word_of row) c.as_slice.result.now c.ne.result c.ne.ensures c.if-ne.false ∙ c.as_slice.ensures in λ n. head_fails_field row _ f.0 f.1 w (no_inputs row n))

pub returns-in_err-number : goal.returns-in_err-number
returns-in_err-number c =
    let row = c.in_ok-row.row.now in
    let f = MatchOption-at_some _ _ c.in_ok-row.row c.in_ok-row.ensures.ok_part c.row_at.ensures in
    missing _ _ _ _ Field _ _ c.in_err-number.ensures.value c.from_residual-in_err-number.ensures.1 c.read_number-3.ensures
    (let w : word_of row ≡ head_word = not_unlike (word_of row) c.as_slice.result.now c.ne.result c.ne.ensures c.if-ne.false ∙ c.as_slice.ensures in λ n. head_fails_field row _ f.0 f.1 w (no_values row n))

pub returns-in_err-values : goal.returns-in_err-values
returns-in_err-values c =
    let row = c.in_ok-row.row.now in
    let f = MatchOption-at_some _ _ c.in_ok-row.row c.in_ok-row.ensures.ok_part c.row_at.ensures in
    let w : word_of row ≡ head_word = not_unlike (word_of row) c.as_slice.result.now c.ne.result c.ne.ensures c.if-ne.false ∙ c.as_slice.ensures in
    let n = MatchOption-at_some _ _ _ c.in_ok-lines.ensures.ok_part c.read_number.ensures in
    let i = MatchOption-at_some _ _ _ c.in_ok-inputs.ensures.ok_part c.read_number-2.ensures in
    let v = MatchOption-at_some _ _ _ c.in_ok-number.ensures.ok_part c.read_number-3.ensures in
    missing _ _ _ _ Limits _ _ c.in_err-values.ensures.value c.from_residual-in_err-values.ensures.1 c.of.ensures
    (λ none. head_fails_limits row _ f.0 f.1 _ _ _ w (is_head row _ f.0 f.1 _ _ _ w n i v) (λ a. ⊎_elim (none Two) (none Five) a.1))

pub returns-then-inputs-from : goal.returns-then-inputs-from
returns-then-inputs-from c =
    let row = c.in_ok-row.row.now in
    let f = MatchOption-at_some _ _ c.in_ok-row.row c.in_ok-row.ensures.ok_part c.row_at.ensures in
    let w : word_of row ≡ head_word = not_unlike (word_of row) c.as_slice.result.now c.ne.result c.ne.ensures c.if-ne.false ∙ c.as_slice.ensures in
    let n = MatchOption-at_some _ _ _ c.in_ok-lines.ensures.ok_part c.read_number.ensures in
    let i = MatchOption-at_some _ _ _ c.in_ok-inputs.ensures.ok_part c.read_number-2.ensures in
    let v = MatchOption-at_some _ _ _ c.in_ok-number.ensures.ok_part c.read_number-3.ensures in
    head_fails_limits row _ f.0 f.1 _ _ _ w (is_head row _ f.0 f.1 _ _ _ w n i v) (λ a. let few = a.0 in omega (arith, few, c.if-inputs-from.true))

pub returns : goal.returns
returns c =
    let row = c.in_ok-row.row.now in
    let f = MatchOption-at_some _ _ c.in_ok-row.row c.in_ok-row.ensures.ok_part c.row_at.ensures in
    let w : word_of row ≡ head_word = not_unlike (word_of row) c.as_slice.result.now c.ne.result c.ne.ensures c.if-ne.false ∙ c.as_slice.ensures in
    let n = MatchOption-at_some _ _ _ c.in_ok-lines.ensures.ok_part c.read_number.ensures in
    let i = MatchOption-at_some _ _ _ c.in_ok-inputs.ensures.ok_part c.read_number-2.ensures in
    let v = MatchOption-at_some _ _ _ c.in_ok-number.ensures.ok_part c.read_number-3.ensures in
    let k = MatchOption-at_some _ _ _ c.in_ok-values.ensures.ok_part c.of.ensures in
    (subst (HeadRow (row_at c.args.bytes.now c.args.at) c.in_ok-lines.lines c.in_ok-inputs.inputs) k (is_head row _ f.0 f.1 _ _ _ w n i v), (omega arith))
