-- The next name stands behind the others.
use Rattle.std.proofs.Common.{◌≡◌, ◌+◌, ◌-◌, ◌<◌, ◌++◌, ◌∙◌, sym, ap, ap₂, arith, length, length-append, length-set, take, drop}
use Rattle.std.specs.List.{concat}
use borrow.Rule.Slice.PartMut.{put_mid}
use Rattle.flow_records.specs.Names.{names_of}
use Rattle.flow_records.proofs.buffers.JoinedNames.{next_name, put_behind, known_further, within_names}
use Rattle.flow_records.proofs.names.put_names.Goals as goal

pub slice_bounds-copy_from_slice-end : goal.slice_bounds-copy_from_slice-end
slice_bounds-copy_from_slice-end c = omega (
  arith,
  c.requires.room,
  c.loop-number.invariant.at,
  c.loop-number.auto.bytes,
  within_names (names_of c.args.named c.args.program.now) c.loop-number.number c.name-name.result.now
      (omega (arith, c.loop-number-test.true, c.count_names-number-end.ensures)) c.name-name.ensures,
)

pub loop-number-preserved : goal.loop-number-preserved
loop-number-preserved c =
    let names = names_of c.args.named c.args.program.now in
    let number = c.loop-number.number in
    let name = c.name-name.result.now in
    let at = c.loop-number.at in
    let before = c.loop-number.invariant in
    let there : number < length names = omega (arith, c.loop-number-test.true, c.count_names-number-end.ensures) in
    let next = next_name names number name there c.name-name.ensures in
    let end : at + length name ≡ length (concat (take (number + 1) names)) =
    omega (arith, before.at, ap length next, length-append (concat (take number names)) name) in
    let size : at + length name - at ≡ length name = omega arith in
    record {
      at = end;
      count = length-set c.loop-number.ends number (at + length name) ∙ before.count;
      end = known_further names number (at + length name) c.loop-number.ends (omega (arith, there, before.count)) end before.end;
      bytes =
          ap₂ (λ l s. put_mid at (at + length name - at) l s) before.bytes c.copy_from_slice.ensures.after
          ∙ put_behind at (at + length name - at) (concat (take number names)) c.args.bytes.now name before.at size
          ∙ ap₂ (λ l n. l ++ drop n c.args.bytes.now) (sym next) (omega arith);
    }
