use Rattle.std.proofs.Common.{slice_index}
use Rattle.std.proofs.lemmas.List.{get_or_default}
use Rattle.flow_steps.specs.code.Told.{change_told}
use Rattle.flow_steps.proofs.told.Pushes.{next_told}
use Rattle.flow_steps.proofs.lines.push_changes.Goals as goal

pub loop-place-preserved : goal.loop-place-preserved
loop-place-preserved c =
    next_told (change_told c.args.frame.now c.args.old.now c.args.new.now) c.args.points.now c.loop-place.place
    (slice_index c.args.points.now c.loop-place.place) c.args.text.now.items
    c.loop-place.text.items c.push_comma_if.new.text.items c.push_change.new.text.items c.loop-place-test.true
    (get_or_default c.args.points.now c.loop-place.place 0 _ c.loop-place-test.true) c.loop-place.invariant c.in_ok-push_comma_if.ensures
    c.in_ok-push_change.ensures
