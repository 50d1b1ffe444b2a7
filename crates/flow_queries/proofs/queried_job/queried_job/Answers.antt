use Rattle.std.proofs.Common.{List, sym, subst}
use Rattle.flow_queries.specs.Queries.{AreQueriesOf}
use Rattle.flow_queries.specs.code.Splits.{AreSplit}
use Rattle.flow_queries.specs.declared.query.Query.{Query}
use Rattle.tac_program.specs.Programs.{Program}
use Rattle.flow_queries.proofs.queries.Splitting.{left_are_queries}
use Rattle.flow_queries.proofs.queried_job.queried_job.Goals as goal

pub packed_solvers-requires : goal.packed_solvers-requires
packed_solvers-requires c =
    let left = c.in_ok-split.split.left.items in
    let found = c.in_ok-split.split.found.items in
    let split = subst (λ (list : List Query). AreSplit c.args.solvers list left found) c.as_slice.ensures.value c.in_ok-split.ensures in
    subst (λ (p : Program). AreQueriesOf p c.as_slice-2.result.now) (sym c.graph.ensures)
    (subst (AreQueriesOf c.args.solvers) (sym c.as_slice-2.ensures.value)
    (left_are_queries c.args.solvers c.args.queries.items left found split c.requires.queries))

pub split_queries-requires : goal.split_queries-requires
split_queries-requires c = subst (AreQueriesOf c.args.solvers) (sym c.as_slice.ensures.value) c.requires.queries
