use Rattle.std.proofs.Common.{◌≡◌, length}
use Rattle.flow_queries.specs.code.Packing.{AreMarksOf}
use Rattle.flow_queries.proofs.packing.marks_of.Given as goal

abbrev pub invariant-loop-bit : goal.invariant-loop-bit
invariant-loop-bit l = record {
  count : length l.marks.items ≡ l.bit;
  each : AreMarksOf l.words l.marks.items;
}
