use Rattle.std.proofs.Common.{sym, ◌∙◌, ap, subst, arith, length, [], ◌∷◌}
use Rattle.tac_lines.specs.Forms.{statement_forms, unary}
use Rattle.tac_lines.specs.code.Views.{GoesAsFar, tokens_view, form_slots, fills_at}
use Rattle.tac_lines.proofs.forms.Shapes.{key_far, if_far, no_more, name_far, unary_far, binary_far, copy_far, call_far, copied, of_unary, of_binary}
use Rattle.tac_lines.specs.declared.token.TokenKind.TheVariants as kind
use Rattle.tac_lines.proofs.form.form_of.Goals as goal

pub returns-then-fits_at : goal.returns-then-fits_at
returns-then-fits_at c text =
    if_far text 0 c.args.tokens.now c.in-Some.token.now _ c.in-Some.ensures.value (c.in-Keyword.is ∙ ap kind.Keyword c.in-If.is)
    (c.fits_at.ensures text ∙ c.if-fits_at.true)

pub returns-else-fits_at : goal.returns-else-fits_at
returns-else-fits_at c text =
    if_far text 0 c.args.tokens.now c.in-Some.token.now _ c.in-Some.ensures.value (c.in-Keyword.is ∙ ap kind.Keyword c.in-If.is)
    (c.fits_at.ensures text ∙ c.if-fits_at.false)

pub returns-in-Call : goal.returns-in-Call
returns-in-Call c text = call_far text c.args.tokens.now c.in-Some.token.now c.in-Some.ensures.value (c.in-Keyword.is ∙ ap kind.Keyword c.in-Call.is)

pub returns-in_default-keyword : goal.returns-in_default-keyword
returns-in_default-keyword c text =
    let n = length c.args.tokens.now in
    subst (λ f. GoesAsFar statement_forms (form_slots f n ∷ []) (tokens_view text c.args.tokens.now)) (sym c.keyword_form.ensures)
    (key_far text n c.args.tokens.now c.in-Some.token.now c.in-Keyword.keyword c.in-Some.ensures.value c.in-Keyword.is
    (no_more text c.in-Keyword.keyword c.in_default-keyword.not-If c.in_default-keyword.not-Call))

pub returns-then-fits_at-2 : goal.returns-then-fits_at-2
returns-then-fits_at-2 c text = name_far text c.args.tokens.now c.in-Some.token.now (of_unary text) c.in-Some.ensures.value c.in-Name.is
    (λ us third len. unary_far text us (ap (fills_at text unary) third ∙ c.fits_at-in-Name.ensures text ∙ c.if-fits_at-2.true))

pub returns-then-tokens-gt3 : goal.returns-then-tokens-gt3
returns-then-tokens-gt3 c text = name_far text c.args.tokens.now c.in-Some.token.now (of_binary text) c.in-Some.ensures.value c.in-Name.is
    (λ us third len. binary_far text us (ap (fills_at text unary) third ∙ c.fits_at-in-Name.ensures text ∙ c.if-fits_at-2.false)
    (omega (arith, len, c.if-tokens-gt3.true)))

pub returns-else-tokens-gt3 : goal.returns-else-tokens-gt3
returns-else-tokens-gt3 c text = name_far text c.args.tokens.now c.in-Some.token.now (copied text) c.in-Some.ensures.value c.in-Name.is
    (λ us third len. copy_far text us (ap (fills_at text unary) third ∙ c.fits_at-in-Name.ensures text ∙ c.if-fits_at-2.false)
    (omega (arith, len, c.if-tokens-gt3.false)))
