-- What was pulled stands behind what was filled.
use Rattle.std.proofs.Common.{rules, ◌≤◌, length, subst, sym}
use Rattle.std.specs.Io.KnownBytes.{Consumes}
use Rattle.std.proofs.KnownBytes.{Consumes-trans}
use borrow.Rule.Slice.PartMut.{same_len_mid}
use Rattle.text_pieces.proofs.buffers.Buffers.{take_written}
use Rattle.text_pieces.proofs.pulls.fill_behind.Goals as goal

pub returns-clause-bytes : goal.returns-clause-bytes
returns-clause-bytes g c before read =
    let lent = c.deref_mut.ensures in
    let pulled = c.in_ok-count.ensures in
    let within : c.args.filled ≤ length c.deref_mut.result.now = search rules in
    subst (Consumes before _)
    (sym (take_written _ _ _ _ _ _ _ lent.value c.args.text.now.ok.0 (same_len_mid _ _ _ _ c.fill_buffer.auto.buf) within pulled.within))
    (Consumes-trans _ _ _ _ _ read pulled.bytes)
