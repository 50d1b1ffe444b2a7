use Rattle.std.proofs.Common.{◌<◌, arith}
use Rattle.std.specs.List.{slice_range}
use Rattle.flow_graph.specs.Directions.{goes_backward}
use Rattle.flow_graph.specs.Points.{point_count}
use Rattle.flow_links.specs.LinkLists.{AreCallsFrom}
use Rattle.flow_links.specs.Shapes.{LinkedProgram, directed_shape}
use Rattle.flow_links.proofs.groups.ListLemmas.{form_of, part_read, seen, unseen, calls_are}
use Rattle.flow_links.proofs.links.Links.calls_from.Goals as goal

pub returns : goal.returns
returns c =
    let tables = c.self.invariant in
    let form = form_of c.self.inside.program.value c.self.inside.analysis in
    let low = unseen form (goes_backward c.self.inside.direction) c.args.self.now tables.same_direction c.self.view_is
    (λ (l : LinkedProgram). c.args.point < point_count l.program) c.requires in
    let part = part_read tables.calls_are c.args.point c.index-from.result.now c.index-to.result.now c.deref.result.now low c.index-from.ensures
    c.index-to.ensures c.deref.ensures.value in
    seen form (goes_backward c.self.inside.direction) c.args.self.now tables.same_direction c.self.view_is
    (λ (l : LinkedProgram). AreCallsFrom (directed_shape l) l.backward (point_count l.program) c.args.point
    (slice_range c.deref.result.now c.index-from.result.now c.index-to.result.now))
    (calls_are tables.numbered c.args.point low (slice_range c.deref.result.now c.index-from.result.now c.index-to.result.now) part)

pub index-from-requires : goal.index-from-requires
index-from-requires c =
    let tables = c.self.invariant in
    let form = form_of c.self.inside.program.value c.self.inside.analysis in
    let low = unseen form (goes_backward c.self.inside.direction) c.args.self.now tables.same_direction c.self.view_is
    (λ (l : LinkedProgram). c.args.point < point_count l.program) c.requires in
    let long = tables.calls_are.start_count in
    let len = c.self.inside.calls.starts.ok.0 in
    omega (arith, low, long, len)

pub index-to-requires : goal.index-to-requires
index-to-requires c =
    let tables = c.self.invariant in
    let form = form_of c.self.inside.program.value c.self.inside.analysis in
    let low = unseen form (goes_backward c.self.inside.direction) c.args.self.now tables.same_direction c.self.view_is
    (λ (l : LinkedProgram). c.args.point < point_count l.program) c.requires in
    let long = tables.calls_are.start_count in
    let len = c.self.inside.calls.starts.ok.0 in
    omega (arith, low, long, len)
