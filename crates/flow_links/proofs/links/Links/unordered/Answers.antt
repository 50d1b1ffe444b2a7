use Rattle.std.proofs.Common.{sym, subst, ◌∙◌}
use Rattle.flow_graph.specs.Directions.{goes_backward}
use Rattle.flow_graph.specs.Problems.{MayForm}
use Rattle.flow_links.specs.Tables.LinkTables.{AreTables}
use Rattle.flow_links.proofs.shapes.ShapeLemmas.{in_range}
use Rattle.flow_links.proofs.links.Links.unordered.Goals as goal

pub invariant_of-result : goal.invariant_of-result
invariant_of-result c =
    let range = (in_range c.args.problem.now.program c.args.problem.now.analysis c.procedures.ensures.sound c.points.ensures.few) in
    let tables = c.in_ok-tables.tables in
    let lists = c.in_ok-lists.lists in
    let orders = c.in_ok-orders.orders in
    subst (λ (form : MayForm). AreTables form (goes_backward c.direction.result) c.root.result tables.entries.items tables.exits.items
    tables.procedures.items
    lists.steps.starts.items lists.steps.items.items
    lists.calls.starts.items lists.calls.items.items lists.callers.starts.items lists.callers.items.items lists.sites.starts.items
    lists.sites.items.items
    orders.points orders.procedures)
    (sym (λ i. record { program = (c.of.ensures ∙ c.program.ensures) i; analysis = c.analysis.ensures i })) record {
      same_direction = c.direction.ensures;
      few = c.points.ensures.few;
      numbered = range.numbered;
      few_procedures = range.few_procedures;
      root_is = c.root.ensures.number ∙ sym range.root_is;
      entries_are = c.in_ok-tables.ensures.entries;
      exits_are = c.in_ok-tables.ensures.exits;
      procedures_are = c.in_ok-tables.ensures.procedures;
      steps_are = c.in_ok-lists.ensures.steps;
      calls_are = c.in_ok-lists.ensures.calls;
      callers_are = c.in_ok-lists.ensures.callers;
      sites_are = c.in_ok-lists.ensures.sites;
      points_ordered = c.in_ok-orders.ensures.0 ∙ c.points.ensures.count;
      procedures_ordered = c.in_ok-orders.ensures.1 ∙ (c.procedures.ensures.count ∙ sym range.procedures_are);
    }
