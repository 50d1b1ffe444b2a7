-- What a pull gave stands behind what was there, and it showed no end.
use Rattle.std.proofs.Common.{rules, sym, subst, ◌∙◌, refl}
use Rattle.std.proofs.lemmas.Bool.{ne_eqb}
use Rattle.std.specs.Io.KnownBytes.{Consumes}
use Rattle.std.proofs.KnownBytes.{Consumes-trans}
use Rattle.text_pieces.proofs.buffers.Buffers.{take_filled}
use Rattle.text_pieces.proofs.pulls.fill_buffer.Goals as goal

pub loop-filled-preserved : goal.loop-filled-preserved
loop-filled-preserved g c =
    let before = c.loop-filled.invariant in
    let pulled = c.in_ok-count.ensures in
    record {
      within = search rules;
      bytes = subst (Consumes _ _) (sym (take_filled _ _ _ _ _ before.within pulled.bound.0)) (Consumes-trans _ _ _ _ _ before.bytes pulled.bytes.0);
      running = pulled.ended ∙ rw (before.running, ne_eqb c.in_ok-count.count 0 c.if-count-eq0.false) refl;
      faults = search rules;
    }
