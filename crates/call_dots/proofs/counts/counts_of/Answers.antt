use Rattle.std.proofs.Common.{ap, arith, get_or}
use Rattle.flow_graph.specs.declared.place.Place.{Place}
use Rattle.flow_graph.proofs.places.PointLemmas.{points_have_places}
use Rattle.flow_reports.specs.declared.remark.Remark.TheVariants.{NeverReached}
use Rattle.call_dots.proofs.counts.counts_of.Goals as goal

pub count_if-requires-clause-place : goal.count_if-requires-clause-place
count_if-requires-clause-place c =
    let below = c.requires c.loop-placed.placed-index (record { point = 0; remark = NeverReached }) c.loop-placed-test.true in
    let place = points_have_places c.args.graph.now (get_or c.args.remarks.now c.loop-placed.placed-index (record { point = 0; remark = NeverReached })).point below in
    omega (arith, place.procedure, ap (λ (at : Place). at.procedure) c.place.ensures, c.loop-placed.invariant.count)
