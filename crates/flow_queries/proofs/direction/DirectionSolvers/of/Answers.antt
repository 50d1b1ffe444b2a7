use Rattle.std.proofs.Common.{◌≡◌, ◌∙◌, ◌+◌, List, ◌∷◌, [], Some, length, slice_get, get_or, sym, ap, length-append, arith}
use Rattle.std.proofs.lemmas.Option.{slice_get_within}
use Rattle.gen_kill.specs.Selections.{Selection}
use Rattle.flow_graph.specs.declared.analysis.Analysis.{Analysis}
use Rattle.flow_graph.specs.declared.analysis.Analysis.TheVariants.{Reach}
use Rattle.flow_links.specs.Shapes.{LinkedProgram}
use Rattle.flow_queries.specs.code.Directions.{analyses_of, selection_of}
use Rattle.flow_queries.proofs.queries.Listed.{one_more, routes_known}
use Rattle.flow_queries.proofs.direction.DirectionSolvers.of.Goals as goal

pub loop-analysis-preserved : goal.loop-analysis-preserved
loop-analysis-preserved c =
    let before = c.loop-analysis.invariant in
    let old : List Selection = c.loop-analysis.solvers.items in
    let solver : Selection = c.in_ok-solver_of.field-0 in
    let longer : length c.push.new.self.items ≡ length old + 1 = ap length c.in_ok-push.ensures.items ∙ length-append old (solver ∷ []) in
    record {
      count = omega (arith, longer, before.count);
      each = λ k analysis below there.
          ap (λ (solvers : List Selection). slice_get solvers k) c.in_ok-push.ensures.items
          ∙ one_more (selection_of c.args.graph.now) c.analyses-analysis-items.result.now old solver c.loop-analysis.analysis-index Reach before.count
          c.in_ok-solver_of.ensures before.each k analysis below there;
    }

pub returns : goal.returns
returns c =
    routes_known c.args.graph.now c.args.direction c.analyses-analysis-items.result.now c.loop-analysis.solvers.items c.loop-analysis.analysis-index
    c.problem.result.now c.in_ok-routes.routes c.analyses-analysis-items.ensures.list (omega (arith, c.loop-analysis-test.false))
    c.loop-analysis.invariant.each
    (c.problem.ensures ∙ c.index.ensures ∙ ap (get_or c.loop-analysis.solvers.items 0) (sym c.problem.ensures)) c.in_ok-routes.ensures

pub invariant_of-result : goal.invariant_of-result
invariant_of-result c = λ k analysis there.
    let analyses : List Analysis = c.analyses-analysis-items.result.now in
    let is =
    routes_known c.args.graph.now c.args.direction analyses c.loop-analysis.solvers.items c.loop-analysis.analysis-index
    c.problem.result.now c.in_ok-routes.routes c.analyses-analysis-items.ensures.list (omega (arith, c.loop-analysis-test.false))
    c.loop-analysis.invariant.each
    (c.problem.ensures ∙ c.index.ensures ∙ ap (get_or c.loop-analysis.solvers.items 0) (sym c.problem.ensures)) c.in_ok-routes.ensures in
    let listed : slice_get analyses k ≡ Some analysis =
    ap (λ (list : List Analysis). slice_get list k) c.analyses-analysis-items.ensures.list
    ∙ ap (λ (linked : LinkedProgram). slice_get (analyses_of linked.backward) k) (sym is) ∙ there in
    c.loop-analysis.invariant.each k analysis
    (omega (arith, slice_get_within analyses k analysis listed, c.loop-analysis-test.false)) listed
    ∙ ap (λ (linked : LinkedProgram). Some (selection_of linked.program analysis)) (sym is)
