use Rattle.std.proofs.Common.{◌≡◌, ◌<◌, ℕ, false, get_or, length, take}
use Rattle.std.specs.List.{list_any}
use Rattle.call_dots.specs.code.Tables.{leaves_back}
use Rattle.call_dots.proofs.calls.recursive_nodes.Given as goal

abbrev pub invariant-loop-arc : goal.invariant-loop-arc
invariant-loop-arc l = record {
  count : length l.nodes.items ≡ l.fn.count;
  each : (p : ℕ) → p < l.fn.count → get_or l.nodes.items p false ≡ list_any (leaves_back l.numbers p) (take l.arc-index l.arcs);
}
