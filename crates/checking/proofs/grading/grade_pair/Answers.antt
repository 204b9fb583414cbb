use Rattle.std.proofs.Common.{◌≡◌, ◌^◌, ◌<◌, ap, ◌∙◌, subst, rules, of_calls}
use Rattle.std.specs.Iterator.Runs.{ItemsMapTo}
use Rattle.std.specs.Slice.Iter.{iter_rest}
use Rattle.std.proofs.lemmas.List.{get_or_default}
use Rattle.netlist.specs.Findings.{first, first_below}
use Rattle.records.specs.Stores.{value}
use Rattle.diagram.specs.Views.{view}
use Rattle.checking.specs.Gradings.{Graded, difference_of}
use Rattle.checking.proofs.Gravest.{tried, gravest_tried, match_option, finds, grave_code, graded_finding}
use Rattle.checking.proofs.grading.grade_pair.Goals as goal

pub returns : goal.returns
returns g c graded =
    let o = g.G.Algebra.ops in
    let s = view c.args.table.now in
    let vs = c.grave_order.result.now in
    let same = c.grave_order.ensures in
    let run = c.find_map.ensures.runs in
    let p = run.0 in
    let items = subst (ItemsMapTo p (λ y. y.now)) (ap iter_rest run.1 ∙ c.iter.ensures.rest) (c.iter.ensures.runs p p.seen) in
    let v = value o s c.args.graded in
    let left = value o s c.args.x in
    let right = value o s c.args.y in
    gravest_tried (2 ^ s.inputs) v left right vs c.find_map.result c.map_or.result
    (finds p _ _ vs items (tried (2 ^ s.inputs) v left right vs) (λ a r f e. search rules)
    (λ k x q h e called.
    let told : Graded o s c.args.graded c.args.x c.args.y → x.now < o.count → q ≡ difference_of left right x.now (first s.inputs v x.now) = search (rules, of_calls) in
    told graded (grave_code g.G.Algebra.laws vs k x.now same h (e ∙ get_or_default vs k 0 x.now h)) ∙ ap (λ w. difference_of left right w (first_below (2 ^ s.inputs) v w)) e)
    c.find_map.result run.2)
    (match_option _ c.find_map.result (λ d e. search (rules, of_calls)) c.map_or.ensures)
    ∙ graded_finding graded vs same
