use Rattle.std.proofs.Common.{◌<◌, length, arith, subst, sym}
use Rattle.flow_graph.specs.Points.{point_count}
use Rattle.flow_links.specs.Shapes.{directed_shape}
use Rattle.flow_links.proofs.groups.ListLemmas.{after_low}
use Rattle.gk_solve.proofs.edges.GroupLemmas.{call_keeps_of, call_makes_of, calls_settled_of}
use Rattle.gk_solve.proofs.visits.Callees.{no_call}
use Rattle.gk_solve.proofs.visits.SummaryVisits.{has_size}
use Rattle.gk_solve.proofs.group.visit_calls.Goals as goal

-- no call leaves the point
pub returns-in_default-clause-settled : goal.returns-in_default-clause-settled
returns-in_default-clause-settled g c site y there =
    absurd (no_call (directed_shape c.args.frame.now.links.now) c.args.frame.now.links.now.backward (point_count c.args.frame.now.links.now.program) c.args.at
    c.calls_from-calls.result.now c.calls_from-calls.ensures c.in_default.ensures.value site y there)

pub put_summary-requires : goal.put_summary-requires
put_summary-requires g c =
    let is = c.requires.frame in
    let link = c.in-Some.call.now in
    let first = c.in-Some.ensures.item in
    let there = (c.calls_from-calls.ensures.listed link).0 (0, first.3.0, sym first.1) in
    let within : c.args.at < length c.args.table.now = omega (arith, c.requires.within, c.requires.count) in (
      has_size g.row.W is.narrow,
      (
        c.requires.count,
        (
          c.requires.dirty_count,
          (
            subst (λ n. n < point_count c.args.frame.now.links.now.program) (sym there.4) (after_low is.numbered there.0 c.args.at there.1 there.2),
            (
              call_keeps_of g.row.W c.args.frame.now is c.args.table.now c.requires.sound c.args.at c.requires.path c.called-through.result
                  c.called-through.ensures.preserved c.called-through.ensures.generated within c.index-table-at.result c.index-table-at.is
                  c.common_words.result c.new_or_preserved.result c.common_words.ensures c.new_or_preserved.ensures link there,
              call_makes_of g.row.W c.args.frame.now is c.args.table.now c.requires.sound c.args.at c.requires.path c.called-through.result
                  c.called-through.ensures.preserved c.called-through.ensures.generated within c.index-table-at.result c.index-table-at.is
                  c.common_words.result c.new_or_preserved.result c.common_words.ensures c.new_or_preserved.ensures link there,
            ),
          ),
        ),
      ),
    )

pub returns-clause-settled : goal.returns-clause-settled
returns-clause-settled g c =
    let is = c.requires.frame in
    let link = c.in-Some.call.now in
    let first = c.in-Some.ensures.item in
    let there = (c.calls_from-calls.ensures.listed link).0 (0, first.3.0, sym first.1) in
    let within : c.args.at < length c.args.table.now = omega (arith, c.requires.within, c.requires.count) in
    calls_settled_of g.row.W c.args.frame.now is c.args.table.now c.requires.sound c.args.at c.requires.path c.called-through.result
    c.called-through.ensures.preserved c.called-through.ensures.generated within c.index-table-at.result c.index-table-at.is
    c.common_words.result c.new_or_preserved.result c.common_words.ensures c.new_or_preserved.ensures link there
    c.put_summary.new.table c.put_summary.new.dirty c.put_summary.ensures.same
    c.put_summary.ensures.preserved_added c.put_summary.ensures.generated_added
