use Rattle.std.proofs.Common.{◌≡◌, length}
use Rattle.flow_regions.specs.code.Effects.{ArePut}
use Rattle.flow_regions.proofs.effects.put_column.Given as goal

abbrev pub invariant-loop-point : goal.invariant-loop-point
invariant-loop-point l = record {
  count : length l.words ≡ length l.fn.words;
  put : ArePut l.problem l.does l.member.column l.member.bit l.listed l.point-index l.places l.fn.words l.words;
}
