use Rattle.std.proofs.Common.{◌≡◌, ◌++◌, ◌<◌, ℕ, get_or, length, map, take, nat_eq, if◌then◌else◌}
use Rattle.std.specs.List.{list_any}
use Rattle.call_dots.specs.Calls.{count_of, edge_of, first_calls}
use Rattle.call_dots.proofs.calls.put_edges.Given as goal

abbrev pub invariant-loop-call : goal.invariant-loop-call
invariant-loop-call l = record {
  edges : l.edges.items ≡ l.fn.edges.items ++ map (edge_of l.calls) (first_calls (take l.call-index l.calls));
  count : length l.counts.items ≡ length l.fn.counts.items;
  each : (callee : ℕ) → callee < length l.fn.counts.items
      → get_or l.counts.items callee 0
      ≡ (if list_any (λ k. nat_eq callee k.callee) (first_calls (take l.call-index l.calls)) then 0 else count_of l.calls callee);
}
