use Rattle.std.proofs.Common.{◌≡◌, ◌-◌, suc, List, ◌++◌, flat_map, ap, ◌∙◌, arith}
use Rattle.std.specs.List.{range_with_len}
use Rattle.flow_graph.specs.Points.{end_place, entry_point}
use Rattle.tac_program.specs.Programs.{Program}
use Rattle.call_dots.specs.Calls.{calls_at}
use Rattle.call_dots.specs.declared.calls.NamedCall.{NamedCall}
use Rattle.call_dots.proofs.named.Calls.{walk_further}
use Rattle.call_dots.proofs.calls.calls_of.Goals as goal

pub loop-site-preserved : goal.loop-site-preserved
loop-site-preserved c =
    c.in_ok-put_calls_at.ensures ∙ ap (λ (calls : List NamedCall). calls ++ calls_at c.args.graph.now c.loop-site.site) c.loop-site.invariant
    ∙ walk_further (calls_at c.args.graph.now) (entry_point c.args.graph.now c.args.procedure) c.loop-site.site
    (omega (arith, c.loop-site.auto.site, c.shown_points-points.ensures.first))

pub returns : goal.returns
returns c =
    let program : Program = c.args.graph.now in
    let all : c.loop-site.site - entry_point program c.args.procedure ≡ suc (end_place program c.args.procedure) =
    omega (arith, c.loop-site-test.false, c.loop-site.auto.site-end, c.shown_points-points.ensures.ordered, c.shown_points-points.ensures.end) in
    c.loop-site.invariant ∙ ap (λ n. flat_map (calls_at program) (range_with_len (entry_point program c.args.procedure) n)) all
