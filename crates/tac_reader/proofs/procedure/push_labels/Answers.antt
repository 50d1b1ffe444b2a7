use Rattle.std.proofs.Common.{◌+◌, ◌-◌, arith}
use Rattle.tac_reader.proofs.programs.LabelRuns.{push_one}
use Rattle.tac_reader.proofs.procedure.push_labels.Goals as goal

pub loop-preserved : goal.loop-preserved
loop-preserved c =
    push_one c.loop.labels.items c.push.new.self.items _ c.args.place (c.args.count - c.loop.counter) (c.args.count - (c.loop.counter + 1)) _
    c.in_ok-push.ensures.items (omega (arith, c.in_ok-name.ensures, c.len.ensures, c.loop.labels.ok)) (omega arith) c.loop.invariant
