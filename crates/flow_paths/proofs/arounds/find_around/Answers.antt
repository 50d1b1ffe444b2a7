use Rattle.std.proofs.Common.{◌∙◌, ◌+◌, slice_index, sym}
use Rattle.flow_paths.specs.code.Arounds.{AroundTable}
use Rattle.flow_paths.proofs.lists.Surrounding.{around_there, first_kept, others_kept}
use Rattle.flow_paths.proofs.arounds.find_around.Goals as goal

pub returns-then-is_same : goal.returns-then-is_same
returns-then-is_same c =
    let table : AroundTable = record { arounds = c.args.arounds.now; starts = c.args.starts.now; places = c.args.places.now } in
    c.facts_of.ensures
    ∙ first_kept c.args.arounds.now c.args.places.now c.loop-place.place (slice_index c.args.starts.now (c.args.point + 1)) c.args.remark
    c.index-arounds-places.result c.loop-place-test.true
    (around_there table c.args.point c.loop-place.place c.requires c.if-starts-next.false c.loop-place-test.true)
    c.index-arounds-places.is (sym c.is_same.ensures ∙ c.if-is_same.true)
    ∙ sym c.loop-place.invariant

pub loop-place-preserved : goal.loop-place-preserved
loop-place-preserved c =
    let table : AroundTable = record { arounds = c.args.arounds.now; starts = c.args.starts.now; places = c.args.places.now } in
    c.loop-place.invariant
    ∙ others_kept c.args.arounds.now c.args.places.now c.loop-place.place (slice_index c.args.starts.now (c.args.point + 1)) c.args.remark
    c.index-arounds-places.result c.loop-place-test.true
    (around_there table c.args.point c.loop-place.place c.requires c.if-starts-next.false c.loop-place-test.true)
    c.index-arounds-places.is (sym c.is_same.ensures ∙ c.if-is_same.false)
