use Rattle.std.proofs.Common.{◌≡◌, ◌≤◌, ◌∙◌, ap, sym, subst}
use Rattle.flow_graph.specs.Points.{point_count}
use Rattle.flow_graph.specs.Universes.{bits}
use Rattle.gen_kill.specs.Selections.{all_bits, Selection}
use Rattle.flow_rounds.proofs.lists.Framed.{framed_is}
use Rattle.flow_rounds.proofs.frame.Frame.of.Goals as goal

pub invariant_of-result : goal.invariant_of-result
invariant_of-result c =
    let problem : c.in_ok-problem.problem ≡ all_bits c.args.graph.now c.args.table.now.analysis =
    c.in_ok-problem.ensures ∙ ap (all_bits c.args.graph.now) c.analysis.ensures in
    let same : c.in_ok-problem.problem ≡ all_bits c.in_ok-problem.problem.program c.in_ok-problem.problem.analysis =
    problem ∙ sym (ap (λ (p : Selection). all_bits p.program p.analysis) problem) in (
      framed_is c.in_ok-problem.problem.program c.in_ok-problem.problem.analysis c.args.procedure c.args.points c.args.table.now
          c.in_ok-order.order.items c.in_ok-computed.computed.items c.in_ok-sources.sources.items
          c.requires.ordered
          (subst (λ (p : Selection). c.args.points.end ≤ point_count p.program) (sym problem) c.requires.there)
          (sym (ap (λ (p : Selection). p.analysis) problem))
          c.requires.paths
          (c.requires.bits ∙ sym (ap (λ (p : Selection). bits p.program p.analysis) problem))
          c.as_slice.result.now c.as_slice-4.result.now c.entry-entry.result c.as_slice-3.result.now c.as_slice-5.result.now
          (c.as_slice.ensures.value ∙ c.in_ok-edges.ensures) (c.as_slice-4.ensures.value ∙ c.in_ok-edges.ensures)
          c.entry-entry.ensures c.as_slice-3.ensures.value c.as_slice-5.ensures.value
          c.in_ok-computed.ensures c.in_ok-order.ensures c.in_ok-sources.ensures,
      same,
    )
