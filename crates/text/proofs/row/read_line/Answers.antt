use Rattle.std.proofs.lemmas.Option.{MatchOption-at_some}
use Rattle.netlist.specs.Kinds.{kind_number}
use Rattle.text.specs.declared.fault.RowFault.TheVariants.{Word, Field}
use Rattle.text.proofs.Steps.{missing}
use Rattle.text.proofs.Words.{number_below}
use Rattle.text.proofs.Tested.{no_number, no_first, no_second, line_fails_word, line_fails_field, is_line, line_fails_turn, readable_from, line_done}
use Rattle.text.proofs.row.read_line.Goals as goal

pub returns-in_err-kind : goal.returns-in_err-kind
returns-in_err-kind c =
    let f = MatchOption-at_some _ _ c.in_ok-row.row c.in_ok-row.ensures.ok_part c.row_at.ensures in
    missing _ _ _ _ Word _ _ c.in_err-kind.ensures.value c.from_residual-in_err-kind.ensures.1 c.read_kind.ensures
    (λ n. line_fails_word c.args.due c.in_ok-row.row.now _ f.0 f.1 n)

pub returns-in_err-number : goal.returns-in_err-number
returns-in_err-number c =
    let row = c.in_ok-row.row.now in
    let f = MatchOption-at_some _ _ c.in_ok-row.row c.in_ok-row.ensures.ok_part c.row_at.ensures in
    let k = MatchOption-at_some _ _ _ c.in_ok-kind.ensures.ok_part c.read_kind.ensures in
    missing _ _ _ _ Field _ _ c.in_err-number.ensures.value c.from_residual-in_err-number.ensures.1 c.read_number.ensures
    (λ n. line_fails_field c.args.due row _ f.0 f.1 (kind_number c.in_ok-kind.kind) (number_below c.in_ok-kind.kind) k (no_number row n))

pub returns-in_err-first : goal.returns-in_err-first
returns-in_err-first c =
    let row = c.in_ok-row.row.now in
    let f = MatchOption-at_some _ _ c.in_ok-row.row c.in_ok-row.ensures.ok_part c.row_at.ensures in
    let k = MatchOption-at_some _ _ _ c.in_ok-kind.ensures.ok_part c.read_kind.ensures in
    missing _ _ _ _ Field _ _ c.in_err-first.ensures.value c.from_residual-in_err-first.ensures.1 c.read_number-2.ensures
    (λ n. line_fails_field c.args.due row _ f.0 f.1 (kind_number c.in_ok-kind.kind) (number_below c.in_ok-kind.kind) k (no_first row n))

pub returns-in_err-second : goal.returns-in_err-second
returns-in_err-second c =
    let row = c.in_ok-row.row.now in
    let f = MatchOption-at_some _ _ c.in_ok-row.row c.in_ok-row.ensures.ok_part c.row_at.ensures in
    let k = MatchOption-at_some _ _ _ c.in_ok-kind.ensures.ok_part c.read_kind.ensures in
    let b = number_below c.in_ok-kind.kind in
    missing _ _ _ _ Field _ _ c.in_err-second.ensures.value c.from_residual-in_err-second.ensures.1 c.read_second.ensures
    (λ n. line_fails_field c.args.due row _ f.0 f.1 (kind_number c.in_ok-kind.kind) b k (no_second row (kind_number c.in_ok-kind.kind) b k n))

pub returns-then-number-due : goal.returns-then-number-due
returns-then-number-due c =
    let row = c.in_ok-row.row.now in
    let f = MatchOption-at_some _ _ c.in_ok-row.row c.in_ok-row.ensures.ok_part c.row_at.ensures in
    let kind = kind_number c.in_ok-kind.kind in
    let k = MatchOption-at_some _ _ _ c.in_ok-kind.ensures.ok_part c.read_kind.ensures in
    let n = MatchOption-at_some _ _ _ c.in_ok-number.ensures.ok_part c.read_number.ensures in
    let a = MatchOption-at_some _ _ _ c.in_ok-first.ensures.ok_part c.read_number-2.ensures in
    let b = MatchOption-at_some _ _ _ c.in_ok-second.ensures.ok_part c.read_second.ensures in
    line_fails_turn c.args.due row _ f.0 f.1 c.in_ok-number.number
    (record { kind = kind; first = c.in_ok-first.first; second = c.in_ok-second.second }) n.0
    (readable_from kind c.in_ok-first.first c.in_ok-second.second (number_below c.in_ok-kind.kind) a.0 b.0 b.1)
    (is_line c.args.due row _ f.0 f.1 c.in_ok-number.number kind c.in_ok-first.first c.in_ok-second.second k n.1 a.1 b.2)
    c.requires c.if-number-due.true

pub returns : goal.returns
returns c =
    let row = c.in_ok-row.row.now in
    let f = MatchOption-at_some _ _ c.in_ok-row.row c.in_ok-row.ensures.ok_part c.row_at.ensures in
    let kind = kind_number c.in_ok-kind.kind in
    let k = MatchOption-at_some _ _ _ c.in_ok-kind.ensures.ok_part c.read_kind.ensures in
    let n = MatchOption-at_some _ _ _ c.in_ok-number.ensures.ok_part c.read_number.ensures in
    let a = MatchOption-at_some _ _ _ c.in_ok-first.ensures.ok_part c.read_number-2.ensures in
    let b = MatchOption-at_some _ _ _ c.in_ok-second.ensures.ok_part c.read_second.ensures in
    line_done c.args.due c.in_ok-number.number kind c.from.result c.in_ok-first.first c.in_ok-second.second _ c.from.ensures c.if-number-due.false
    (readable_from kind c.in_ok-first.first c.in_ok-second.second (number_below c.in_ok-kind.kind) a.0 b.0 b.1)
    (is_line c.args.due row _ f.0 f.1 c.in_ok-number.number kind c.in_ok-first.first c.in_ok-second.second k n.1 a.1 b.2)
