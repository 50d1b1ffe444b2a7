use Rattle.std.proofs.Common.{◌≡◌, ◌≤◌, ◌-◌, ℕ, List, length, drop}
use Rattle.tac_lines.specs.Forms.{has_form}
use Rattle.tac_lines.specs.code.Views.{slots_view, tokens_view}
use Rattle.tac_lines.proofs.forms.Walks.{wrong_at}
use Rattle.tac_lines.proofs.form.follow.Given as goal

-- The rest of the tokens goes as far along the rest of the form as all along the whole.
abbrev pub invariant-loop-at : goal.invariant-loop-at
invariant-loop-at l = record {
  slots : l.at ≤ length l.slots;
  tokens : l.at ≤ length l.tokens;
  wrong : (text : List ℕ) → wrong_at text (drop l.at l.slots) (drop l.at l.tokens) ≡ wrong_at text l.slots l.tokens;
  whole : (text : List ℕ)
      → has_form (slots_view (drop l.at l.slots)) (tokens_view text (drop l.at l.tokens)) ≡ has_form (slots_view l.slots) (tokens_view text l.tokens);
}

abbrev pub decreases-loop-at : goal.decreases-loop-at
decreases-loop-at l = length l.tokens - l.at
