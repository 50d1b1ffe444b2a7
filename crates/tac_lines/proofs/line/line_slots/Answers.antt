use Rattle.std.proofs.Common.{◌∙◌, sym, subst, ℕ, ◌<◌, length, List, [], ◌∷◌}
use Rattle.std.proofs.lemmas.List.{length-map}
use Rattle.tac_lines.specs.declared.token.Token.{Token as Lexed}
use Rattle.tac_lines.specs.Forms.{statement_forms}
use Rattle.tac_lines.specs.code.Views.{GoesAsFar, token_view, tokens_view}
use Rattle.tac_lines.proofs.forms.LineForms.{outside_far, end_far, statement_far, labelled_far}
use Rattle.tac_lines.proofs.line.line_slots.Goals as goal
use Rattle.tac_lines.proofs.line.line_slots.Goals.{else-not-labelled-via-then-not-labelled+else-fits_at, else-not-labelled-via-else-not-labelled}

some : (text : List ℕ) (ts : List Lexed) → 0 < length ts → 0 < length (tokens_view text ts)
some text ts h = rw (length-map ts (token_view text)) h

pub returns-then-not-inside : goal.returns-then-not-inside
returns-then-not-inside c text =
    outside_far c.args.inside c.args.labelled (tokens_view text c.args.tokens.now) c.if-not-inside.true (some text c.args.tokens.now c.requires)

pub returns-then-fits_at : goal.returns-then-fits_at
returns-then-fits_at c text = end_far text c.args.inside c.args.labelled c.args.tokens.now c.if-not-inside.false c.if-not-labelled.true
    (c.fits_at.ensures text ∙ c.if-fits_at.true)

pub returns-else-not-labelled : goal.returns-else-not-labelled
returns-else-not-labelled c text =
    let far =
    subst (λ r. GoesAsFar statement_forms (r ∷ []) (tokens_view text c.args.tokens.now)) (sym c.slots_of.ensures) (c.form_of.ensures text) in
    elim c.else-not-labelled.branch [
      | else-not-labelled-via-then-not-labelled+else-fits_at w ↦
          statement_far text c.args.inside c.args.labelled c.args.tokens.now _ c.if-not-inside.false w.if-not-labelled.true c.requires
          (w.fits_at.ensures text ∙ w.if-fits_at.false) far
      | else-not-labelled-via-else-not-labelled w ↦
          labelled_far text c.args.inside c.args.labelled c.args.tokens.now _ c.if-not-inside.false w.if-not-labelled.false c.requires far
    ]
