-- How far edges are made, and callees counted.
use Rattle.std.specs.Prelude.{◌≡◌, ℕ, ◌<◌, List, All, flat_map, length, map, slice_index}
use Rattle.std.specs.List.{range_with_len}
use Rattle.tac_program.specs.Programs.{Program}
use Rattle.call_dots.specs.Calls.{arc_of, calls_in, edges_in}
use Rattle.call_dots.specs.declared.calls.Edges.{Edges}
use Rattle.call_dots.specs.declared.calls.NamedCall.{NamedCall}

abbrev pub AreCalleesWithin : ℕ → List NamedCall → Type 0
AreCalleesWithin count calls = All (λ call. call.callee < count) calls

-- no callee is counted
abbrev pub AreZero : List ℕ → Type 0
AreZero counts = (k : ℕ) → slice_index counts k ≡ 0

-- those of the procedures before one are made
pub record AreEdgesBefore (program : Program) (procedure : ℕ) (all : Edges) : Type 0 where
  pub edges : all.edges.items ≡ flat_map (edges_in program) (range_with_len 0 procedure)
  pub arcs : all.arcs.items ≡ map arc_of (flat_map (calls_in program) (range_with_len 0 procedure))
  pub count : length all.counts.items ≡ length program.procedures
  pub zero : AreZero all.counts.items
