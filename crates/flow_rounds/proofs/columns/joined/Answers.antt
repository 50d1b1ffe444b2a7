use Rattle.std.proofs.Common.{◌∙◌, ℕ, List, All, subst, sym, slice_index}
use Rattle.std.specs.List.{list_all, list_any}
use Rattle.flow_graph.specs.Problems.{may_shape}
use Rattle.flow_rounds.specs.code.Frames.{IsWithin, brings_bit}
use Rattle.flow_rounds.proofs.lists.Frames.{sources_within}
use Rattle.flow_rounds.proofs.lists.Joined.{joined_may, joined_must}
use Rattle.flow_rounds.proofs.columns.joined.Goals as goal

pub all_bring-requires-clause-sources : goal.all_bring-requires-clause-sources
all_bring-requires-clause-sources c =
    subst (λ (xs : List ℕ). All (IsWithin c.args.frame.now.points) xs) (sym c.sources-sources.ensures)
    (sources_within c.args.frame.now.points c.args.frame.now.table (may_shape c.args.frame.now.program c.args.frame.now.analysis).edges
    (slice_index c.args.frame.now.order c.args.place))

pub some_bring-requires-clause-sources : goal.some_bring-requires-clause-sources
some_bring-requires-clause-sources c =
    subst (λ (xs : List ℕ). All (IsWithin c.args.frame.now.points) xs) (sym c.sources-sources.ensures)
    (sources_within c.args.frame.now.points c.args.frame.now.table (may_shape c.args.frame.now.program c.args.frame.now.analysis).edges
    (slice_index c.args.frame.now.order c.args.place))

pub returns-then-is_must : goal.returns-then-is_must
returns-then-is_must c set tells =
    c.all_bring.ensures
    ∙ (λ i. list_all (brings_bit c.args.frame.now c.args.column.now c.args.bit (slice_index (c.order.ensures.order i) c.args.place))
    (c.sources-sources.ensures i))
    ∙ joined_must c.args.frame.now c.args.column.now c.args.bit (slice_index c.args.frame.now.order c.args.place) set tells
    (sym c.if-is_must.ensures)

pub returns-else-is_must : goal.returns-else-is_must
returns-else-is_must c set tells =
    c.some_bring.ensures
    ∙ (λ i. list_any (brings_bit c.args.frame.now c.args.column.now c.args.bit (slice_index (c.order.ensures.order i) c.args.place))
    (c.sources-sources.ensures i))
    ∙ joined_may c.args.frame.now c.args.column.now c.args.bit (slice_index c.args.frame.now.order c.args.place) set tells (sym c.if-is_must.ensures)
