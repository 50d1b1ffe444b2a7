use Rattle.std.proofs.Common.{◌≡◌, ℕ, ◌<◌, false}
use Rattle.flow_team.specs.Tables.{facts_of}
use Rattle.json_texts.proofs.changes.has_some.Given as goal

abbrev pub invariant-loop-bit : goal.invariant-loop-bit
invariant-loop-bit l = (k : ℕ) → k < l.bit → (facts_of l.table).contains l.point k ≡ false
