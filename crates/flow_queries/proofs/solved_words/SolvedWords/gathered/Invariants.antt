use Rattle.std.proofs.Common.{◌≡◌, ◌↔◌, ◌+◌, ◌*◌, ◌<◌, ℕ, true}
use Rattle.bit_rows.specs.Words.{has_bit}
use Rattle.flow_team.specs.Sets.{IsInColumns}
use Rattle.gen_kill.specs.Selections.{all_bits}
use Rattle.flow_queries.proofs.solved_words.SolvedWords.gathered.Given as goal

abbrev pub invariant-loop-place : goal.invariant-loop-place
invariant-loop-place l = record {
  same : l.self ≡ l.fn.self;
  has : (k : ℕ) → k < 64 → (has_bit l.word k ≡ true) ↔ ((k < l.place) × ((has_bit l.query.bits k ≡ true)
      × IsInColumns (all_bits l.fn.self.program l.query.analysis) l.query.point (64 * l.query.word + k)));
}
