-- What a push took stands behind what was there, and the flush keeps it.
use Rattle.std.proofs.Common.{rules, subst}
use Rattle.std.specs.Io.KnownBytes.{Appends}
use Rattle.std.proofs.KnownBytes.{Appends-trans}
use Rattle.text_pieces.proofs.buffers.Buffers.{take_further}
use Rattle.text_pieces.proofs.pieces.push_all.Goals as goal

pub loop-pushed-preserved : goal.loop-pushed-preserved
loop-pushed-preserved g c =
    let before = c.loop-pushed.invariant in
    let pushed = c.in_ok-pushed.ensures in
    record {
      within = search rules;
      bytes = subst (Appends _ _) (take_further c.loop-pushed.pushed c.in_ok-pushed.field-0 c.args.bytes.now)
          (Appends-trans _ _ _ _ _ before.bytes pushed.bytes);
      faults = search rules;
    }
