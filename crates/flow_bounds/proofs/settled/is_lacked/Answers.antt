use Rattle.std.proofs.Common.{◌≡◌, Bool, true, false, not, ℕ, List, ◌<◌, refl, sym, ap, subst, ◌∙◌}
use Rattle.flow_graph.specs.Points.{point_count}
use Rattle.flow_links.specs.Shapes.{LinkedProgram}
use Rattle.flow_bounds.specs.Bounds.{is_in_words}
use Rattle.flow_bounds.proofs.bounds.Settled.{lacks, of_shape}
use Rattle.flow_bounds.proofs.settled.is_lacked.Goals as goal

not_true : (b : Bool) → not b ≡ true → b ≡ false
not_true true is = sym is
not_true false is = refl

pub returns-then-bounded : goal.returns-then-bounded
returns-then-bounded c = λ is path.
    lacks c.args.frame.now c.args.bounded.now c.requires.above.formed c.requires.bounded _ c.args.place c.args.point c.requires.few
    (subst (λ (l : LinkedProgram). c.args.point < point_count l.program) (sym c.requires.linked) c.requires.there) c.requires.inside
    (c.requires.above.above c.args.place c.requires.place) c.if-bounded.true
    (ap (λ (l : List ℕ). is_in_words c.args.frame.now l c.args.point c.args.place) (sym c.as_slice.ensures.value)
    ∙ (sym c.has.ensures ∙ not_true c.has.result is))
    (of_shape c.args.problem.now c.args.frame.now.links.now _ c.args.point c.requires.linked path)
