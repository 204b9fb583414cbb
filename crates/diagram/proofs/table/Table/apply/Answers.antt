use Rattle.std.proofs.Common.{◌∙◌, subst}
use Rattle.diagram.specs.Tasks.{number_of}
use Rattle.diagram.specs.Views.{view, room}
use Rattle.records.specs.Walks.{combined, WalkShape, WalkMeans}
use Rattle.records.proofs.Shapes.{well}
use Rattle.diagram.proofs.Fulls.{settled_shape, settled_means}
use Rattle.diagram.proofs.table.Table.apply.Goals as goal

pub returns : goal.returns
returns g c =
    let o = g.G.Algebra.ops in
    let s = view c.args.self.now in
    let t = view c.walk-made.new.table in
    let Q = g.M.Memo.recalls c.walk-made.new.memo in
    let x = c.args.task.x in
    let y = c.args.task.y in
    let f = combined o s (number_of c.args.task.operation) x y in
    let walked = c.walk-made.ensures in
    record {
      shape = settled_shape s t _ _ Q _ c.used-used.result c.walk-made.result _ c.used-used.ensures walked.grows
          (λ h e. (subst (WalkShape s t x y) e walked.shape).within)
          c.settle.ensures.outcome;
      meaning = λ sound pairs lx ly.
          settled_means g.G.Algebra.laws (well c.args.self.now.well) (well c.walk-made.new.table.well) (room c.args.self.now) _ Q _ f c.used-used.result c.walk-made.result _ walked.grows
          (λ h e. subst (WalkMeans o (room c.args.self.now) s t Q f) e (walked.meaning sound pairs lx ly))
          (λ h e. subst (WalkMeans o (room c.args.self.now) s t Q f) e (walked.meaning sound pairs lx ly))
          c.settle.ensures.outcome;
      room = c.settle.ensures.room ∙ walked.room;
    }
