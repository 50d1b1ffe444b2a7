use Rattle.std.proofs.Common.{◌≡◌, ℕ, ◌-◌, List, flat_map, ap, ◌∙◌, arith}
use Rattle.std.specs.List.{range_with_len}
use Rattle.text_pieces.proofs.sinks.Taking.{takes_as, takes_then}
use Rattle.flow_views.specs.Views.{points_in}
use Rattle.flow_views.proofs.texts.Walks.{walk_list_more}
use Rattle.flow_views.proofs.view_program.ViewProgram.write_all_points.Goals as goal

pub write_points-requires-clause-shows : goal.write_points-requires-clause-shows
write_points-requires-clause-shows g c =
    c.procedures-procedures.ensures.shown c.loop-procedure.procedure (omega (arith, c.loop-procedure.auto.procedure))
    (omega (arith, c.loop-procedure.auto.procedure))

pub loop-procedure-preserved : goal.loop-procedure-preserved
loop-procedure-preserved g c = takes_as _ _ _ _ (takes_then _ _ _ _ _ c.loop-procedure.invariant c.write_points.ensures)
    (walk_list_more (g.F.PointForm.text c.args.form.now c.args.self.now) (points_in c.args.self.now.found.graph.now)
    c.procedures-procedures.result.first c.loop-procedure.procedure c.loop-procedure.auto.procedure)

pub returns : goal.returns
returns g c =
    let texts : List ℕ → List ℕ = λ ps.
    flat_map (g.F.PointForm.text c.args.form.now c.args.self.now) (flat_map (points_in c.args.self.now.found.graph.now) ps) in
    let first : ℕ = c.procedures-procedures.result.first in
    let all : c.loop-procedure.procedure ≡ c.procedures-procedures.result.end = omega (arith, c.procedures-procedures.ensures.ordered) in
    takes_as _ _ _ _ c.loop-procedure.invariant
    (ap (λ n. texts (range_with_len first (n - first))) all ∙ ap texts c.procedures-procedures.ensures.numbers)
