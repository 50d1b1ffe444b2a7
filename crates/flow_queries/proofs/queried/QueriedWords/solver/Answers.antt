use Rattle.std.proofs.Common.{List, Option, sym, subst}
use Rattle.flow_queries.specs.code.Boards.{Queried}
use Rattle.flow_queries.specs.code.Packing.{ArePacked, HasAsked}
use Rattle.gen_kill.specs.Selections.{Selection}
use Rattle.flow_queries.proofs.queries.Packed.{solver_has_asked}
use Rattle.flow_queries.proofs.queried.QueriedWords.solver.Goals as goal

pub returns-clause-asked : goal.returns-clause-asked
returns-clause-asked c =
    let inside = c.self.inside in
    let left = inside.split.left.items in
    let solver = c.solver_among.result.now in
    let packed = subst (λ (list : List (Option Selection)). ArePacked inside.solvers left list) (sym c.as_slice.ensures.value) c.self.invariant.1 in
    let own = solver_has_asked inside.solvers left c.as_slice.result.now packed c.args.analysis solver c.solver_among.ensures in
    subst (λ (queried : Queried). HasAsked queried.left c.args.analysis solver) c.self.view_is own.1
