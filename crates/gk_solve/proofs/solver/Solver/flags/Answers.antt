use Rattle.std.proofs.lemmas.Result.{IfOk-weaker}
use Rattle.std.proofs.Common.{Bool, List, subst, sym, ◌≡◌}
use Rattle.flow_graph.specs.Problems.{may_shape}
use Rattle.gen_kill.specs.Selections.{Selection, may_form}
use Rattle.flow_graph.specs.WellFormed.{IsWellFormed}
use Rattle.flow_graph.specs.Points.{point_count}
use Rattle.flow_links.specs.Shapes.{directed_shape}
use Rattle.gk_solve.specs.Solved.{HasPathFlags}
use Rattle.gk_solve.specs.Tables.Flags.{ArePathFlags}
use Rattle.gk_solve.proofs.words.SolvedWords.{flags_tell}
use Rattle.gk_solve.proofs.solver.Solver.flags.Goals as goal

pub returns : goal.returns
returns c =
    let form = c.args.self.now in
    let linked = c.args.routes.now in
    let formed = subst (λ (f : Selection). IsWellFormed (may_shape f.program f.analysis)) c.self.view_is c.root.ensures.well_formed in
    IfOk-weaker c.copied_flags.result (λ copy. copy.items ≡ c.paths-flags.result.now) (λ copy. HasPathFlags (may_form form) copy.items)
    (λ copy same. flags_tell form linked c.requires formed copy.items
    (subst (λ (flags : List Bool). ArePathFlags (directed_shape linked) (point_count linked.program) flags) (sym same) c.paths-flags.ensures))
    c.copied_flags.ensures
