-- What is left, and whether the next name fits.
use Rattle.std.proofs.Common.{arith, ap, length, length-append, take}
use Rattle.flow_records.specs.Names.{names_of}
use Rattle.flow_records.proofs.buffers.JoinedNames.{next_name, within_names}
use Rattle.std.specs.List.{concat}
use Rattle.flow_records.proofs.names.have_room.Goals as goal

pub returns-then-left-length : goal.returns-then-left-length
returns-then-left-length c =
    omega (
      arith,
      c.loop-number.invariant.left,
      c.if-left-length.true,
      within_names (names_of c.args.named c.args.program.now) c.loop-number.number c.name-length.result.now
          (omega (arith, c.loop-number-test.true, c.count_names-number-end.ensures)) c.name-length.ensures,
    )

pub loop-number-preserved : goal.loop-number-preserved
loop-number-preserved c = record {
  left = omega (
    arith,
    c.loop-number.invariant.left,
    c.if-left-length.false,
    ap length (next_name (names_of c.args.named c.args.program.now) c.loop-number.number c.name-length.result.now
        (omega (arith, c.loop-number-test.true, c.count_names-number-end.ensures)) c.name-length.ensures),
    length-append (concat (take c.loop-number.number (names_of c.args.named c.args.program.now))) c.name-length.result.now,
  );
}
