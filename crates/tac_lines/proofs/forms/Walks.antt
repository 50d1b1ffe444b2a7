-- A walk along a form, one token after another.
use Rattle.std.proofs.Common.{◌≡◌, ℕ, ◌+◌, ◌<◌, ◌≤◌, Bool, true, false, ◌&&◌, List, [], ◌∷◌, length, drop, sym, ap, ◌∙◌}
use Rattle.std.proofs.Common.{Option, Some, option_map, slice_index_or}
use Rattle.std.proofs.lemmas.List.{at_drop_more, drop_all}
use Rattle.tac_lines.specs.Forms.{fills, has_form, first_wrong}
use Rattle.tac_lines.specs.code.Views.{slot_view, slots_view, token_view, tokens_view}
use Rattle.tac_lines.specs.declared.form.Slot.{Slot as Wanted}
use Rattle.tac_lines.specs.declared.form.Slot.TheVariants as wanted
use Rattle.tac_lines.specs.declared.token.TokenKind.TheVariants as kind
use Rattle.tac_lines.specs.declared.token.Token.{Token as Lexed}
use Rattle.tac_lines.proofs.forms.Table.{row_on, row_off}

-- Where the first token is that does not fit.
abbrev pub wrong_at : List ℕ → List Wanted → List Lexed → Option ℕ
wrong_at text slots tokens = option_map (λ t. t.start) (first_wrong (slots_view slots ∷ []) [] (tokens_view text tokens))

abbrev pub whole_at : List ℕ → List Wanted → List Lexed → Bool
whole_at text slots tokens = has_form (slots_view slots) (tokens_view text tokens)

module _ (text : List ℕ) (slots : List Wanted) (tokens : List Lexed) (at : ℕ) where
  module _ (d : Wanted) (e : Lexed) (below : at < length slots) (within : at < length tokens) where
    both : {A : Type 0} (f : List Wanted → List Lexed → A)
        → f (drop at slots) (drop at tokens) ≡ f (slice_index_or slots at d ∷ drop (at + 1) slots) (slice_index_or tokens at e ∷ drop (at + 1) tokens)
    both f = at_drop_more (λ ss. f ss (drop at tokens)) slots at d below
        ∙ at_drop_more (λ ts. f (slice_index_or slots at d ∷ drop (at + 1) slots) ts) tokens at e within

    pub goes_on : fills (slot_view (slice_index_or slots at d)) (token_view text (slice_index_or tokens at e)).word ≡ true
        → (wrong_at text (drop (at + 1) slots) (drop (at + 1) tokens) ≡ wrong_at text (drop at slots) (drop at tokens))
        × (whole_at text (drop (at + 1) slots) (drop (at + 1) tokens) ≡ whole_at text (drop at slots) (drop at tokens))
    goes_on fits = (
      sym (both (wrong_at text) ∙ ap (option_map (λ t. t.start)) (row_on (slot_view (slice_index_or slots at d)) (slots_view (drop (at + 1) slots))
          (token_view text (slice_index_or tokens at e)) (tokens_view text (drop (at + 1) tokens)) fits)),
      sym (both (whole_at text) ∙ ap (λ b. b && whole_at text (drop (at + 1) slots) (drop (at + 1) tokens)) fits),
    )

    pub goes_wrong : fills (slot_view (slice_index_or slots at d)) (token_view text (slice_index_or tokens at e)).word ≡ false
        → (wrong_at text (drop at slots) (drop at tokens) ≡ Some (slice_index_or tokens at e).start)
        × (whole_at text (drop at slots) (drop at tokens) ≡ false)
    goes_wrong fits = (
      both (wrong_at text) ∙ ap (option_map (λ t. t.start)) (row_off (slot_view (slice_index_or slots at d)) (slots_view (drop (at + 1) slots))
          (token_view text (slice_index_or tokens at e)) (tokens_view text (drop (at + 1) tokens)) fits),
      both (whole_at text) ∙ ap (λ b. b && whole_at text (drop (at + 1) slots) (drop (at + 1) tokens)) fits,
    )

  pub no_slots : length slots ≤ at → at < length tokens → whole_at text (drop at slots) (drop at tokens) ≡ false
  no_slots short within =
      ap (λ ss. whole_at text ss (drop at tokens)) (drop_all at slots short)
      ∙ at_drop_more (λ ts. whole_at text [] ts) tokens at (record { kind = kind.Name; start = 0; stop = 0 }) within

  pub no_tokens : length tokens ≤ at → at < length slots → whole_at text (drop at slots) (drop at tokens) ≡ false
  no_tokens short below =
      ap (λ ts. whole_at text (drop at slots) ts) (drop_all at tokens short) ∙ at_drop_more (λ ss. whole_at text ss []) slots at wanted.Colon below
