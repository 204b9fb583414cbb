use Rattle.std.proofs.Common.{◌<◌, ◌^◌, ap, ◌∙◌, subst}
use Rattle.std.proofs.lemmas.Bool.Decides.{Decides-eqb}
use Rattle.std.proofs.lemmas.Slice.Eq.{slice_eq-Decides}
use Rattle.text.specs.Guesses.{columns}
use Rattle.text.proofs.Guessing.{read_back}
use Rattle.text.proofs.field.read_number.Goals as goal

pub returns : goal.returns
returns g c =
    read_back g.row.N c.args.s.now c.as_slice.result.now c.guess-n.result c.eq.result c.then_some.result (slice_eq-Decides Decides-eqb _ _ _ c.eq.ensures)
    (c.as_slice.ensures ∙ c.columns.ensures ∙ ap (columns g.row.N) c.from.ensures) c.guess-n.ensures.0
    (subst (λ k. c.guess-n.result < 10 ^ k) c.requires.whole c.guess-n.ensures.1) c.then_some.ensures
