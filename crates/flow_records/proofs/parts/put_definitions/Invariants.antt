-- The definitions before the next one are told.
use Rattle.std.proofs.Common.{◌≡◌, ℕ, ◌<◌, length}
use Rattle.std.specs.Prelude.{Some, slice_get}
use Rattle.flow_graph.specs.Universes.{Definition, definitions}
use Rattle.flow_records.specs.Parts.{definition_part}
use Rattle.flow_records.proofs.parts.put_definitions.Given as goal

abbrev pub invariant-loop-bit : goal.invariant-loop-bit
invariant-loop-bit l = record {
  count : length l.definitions ≡ length l.initial.definitions;
  each : (n : ℕ) (item : Definition) → n < l.bit → slice_get (definitions l.graph) n ≡ Some item
      → slice_get l.definitions n ≡ Some (definition_part item);
}
