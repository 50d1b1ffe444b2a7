use Rattle.std.proofs.Common.{◌≡◌, ◌==◌, ◌∙◌, ℕ, true, List, [], ◌∷◌, None, arith, length, refl, sym}
use Rattle.tac_lines.specs.Forms.{statement_row}
use Rattle.tac_lines.specs.code.Views.{slots_view, tokens_view}
use Rattle.tac_lines.specs.declared.token.Token.{Token}
use Rattle.tac_lines.proofs.forms.Rows.{row_some, row_none, not_whole}
use Rattle.tac_lines.proofs.statement.statement_form.Goals as goal

pub returns-in-Whole : goal.returns-in-Whole
returns-in-Whole c text =
    row_some c.form_of-form.result (length c.args.tokens.now) (slots_view c.slots_of.result.now) (tokens_view text c.args.tokens.now)
    c.slots_of.ensures (c.in-Whole.ensures.whole text)

pub returns-in_default : goal.returns-in_default
returns-in_default c text =
    row_none c.form_of-form.result (length c.args.tokens.now) (slots_view c.slots_of.result.now) (tokens_view text c.args.tokens.now)
    c.slots_of.ensures (c.form_of-form.ensures text) (c.follow.ensures.whole text ∙ not_whole c.follow.result c.in_default.not-Whole)

no_row : (text : List ℕ) (tokens : List Token) → (length tokens == 0) ≡ true → statement_row (tokens_view text tokens) ≡ None
no_row text [] h = refl
no_row text (t ∷ tokens) h = absurd (let never : ⊥ = grind (arith, h) in never)

pub returns-then-is_empty : goal.returns-then-is_empty
returns-then-is_empty c text = no_row text c.args.tokens.now (sym c.is_empty.ensures ∙ c.if-is_empty.true)
