use Rattle.std.proofs.Common.{◌≡◌, ◌<◌, ◌≤◌, ℕ, true, false, slice_index, slice_index_or}
use Rattle.flow_regions.proofs.outside.lowest_inside.Given as goal

abbrev pub invariant-loop-procedure : goal.invariant-loop-procedure
invariant-loop-procedure l = (p : ℕ) → p < l.procedure → slice_index_or l.inside p false ≡ true → l.lowest ≤ slice_index l.ranks p
