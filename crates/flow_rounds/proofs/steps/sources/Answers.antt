use Rattle.std.proofs.Common.{◌+◌, ◌++◌, ◌∙◌, ap, drop, option_to_list, sym}
use Rattle.std.proofs.lemmas.List.{at_drop_more}
use Rattle.flow_rounds.specs.code.Frames.{has_path_within, sources_to}
use Rattle.flow_rounds.proofs.lists.Sources.{more_sources}
use Rattle.flow_rounds.proofs.steps.sources.Goals as goal

pub loop-edge-preserved : goal.loop-edge-preserved
loop-edge-preserved c =
    more_sources _ (drop (c.loop-edge.edge-index + 1) c.args.edges.now) (has_path_within c.args.points c.args.table.now) c.args.point
    c.loop-edge.sources.items c.put_source.new.sources.items (sources_to c.args.edges.now (has_path_within c.args.points c.args.table.now)
    c.args.point)
    (c.in_ok-put_source.ensures ∙ ap (λ o. c.loop-edge.sources.items ++ option_to_list o) c.step_source.ensures)
    (sym (at_drop_more (λ edges. c.loop-edge.sources.items ++ sources_to edges (has_path_within c.args.points c.args.table.now) c.args.point)
    c.args.edges.now c.loop-edge.edge-index _ c.loop-edge-test.true) ∙ c.loop-edge.invariant)
