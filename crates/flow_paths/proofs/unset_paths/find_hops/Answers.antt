use Rattle.std.proofs.Common.{◌∙◌, ◌+◌, slice_index, sym}
use Rattle.flow_paths.specs.code.UnsetPaths.{PathTable}
use Rattle.flow_paths.proofs.lists.Placed.{first_is, others_are, path_there}
use Rattle.flow_paths.proofs.unset_paths.find_hops.Goals as goal

pub returns-then-path-variable : goal.returns-then-path-variable
returns-then-path-variable c =
    let table : PathTable = record { paths = c.args.paths.now; starts = c.args.starts.now; places = c.args.places.now } in
    c.as_slice.ensures.value
    ∙ first_is c.args.paths.now c.args.places.now c.loop-place.place (slice_index c.args.starts.now (c.args.point + 1)) c.args.variable
    c.index-paths-places.result c.loop-place-test.true
    (path_there table c.args.point c.loop-place.place c.requires c.if-starts-next.false c.loop-place-test.true)
    c.index-paths-places.is c.if-path-variable.true
    ∙ sym c.loop-place.invariant

pub loop-place-preserved : goal.loop-place-preserved
loop-place-preserved c =
    let table : PathTable = record { paths = c.args.paths.now; starts = c.args.starts.now; places = c.args.places.now } in
    c.loop-place.invariant
    ∙ others_are c.args.paths.now c.args.places.now c.loop-place.place (slice_index c.args.starts.now (c.args.point + 1)) c.args.variable
    c.index-paths-places.result c.loop-place-test.true
    (path_there table c.args.point c.loop-place.place c.requires c.if-starts-next.false c.loop-place-test.true)
    c.index-paths-places.is c.if-path-variable.false
