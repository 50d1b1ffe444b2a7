-- What was taken so far, and then the next bytes.
use Rattle.std.proofs.Common.{ℕ, List, ◌+◌, ◌-◌, take, drop, subst, rules, ap}
use Rattle.text_pieces.specs.Pieces.{Takes, Writes, outlet}
use Rattle.text_pieces.proofs.buffers.Buffers.{take_next}
use Rattle.text_pieces.proofs.sinks.Taking.{takes_then, takes_waiting}
use Rattle.text_pieces.proofs.pieces.Pieces.write_long.Goals as goal

pub loop-taken-preserved : goal.loop-taken-preserved
loop-taken-preserved g c =
    let kept = c.keep_bytes.ensures in
    let more : List ℕ = take (c.loop-taken.taken + c.min-count.result - c.loop-taken.taken) (drop c.loop-taken.taken c.args.bytes.now) in
    let waits : Writes g.K.Sink c.make_room.new.self c.keep_bytes.new.self more =
    takes_waiting (outlet g.K.Sink c.make_room.new.self) (outlet g.K.Sink c.keep_bytes.new.self) more kept.same_reference
    (ap g.K.Sink.contents kept.same_sink) kept.failed (ap g.K.Sink.faults kept.same_sink) kept.waiting in
    record {
      within = search rules;
      writes = subst (Takes _ _) (take_next c.loop-taken.taken c.min-count.result c.args.bytes.now)
          (takes_then _ _ _ _ _ c.loop-taken.invariant.writes (takes_then _ _ _ _ _ c.make_room.ensures.writes waits));
    }
