use Rattle.std.proofs.Common.{◌≡◌, ◌∙◌, ap, refl, false, Option, Some, None, slice_get, Bool}
use Rattle.std.proofs.lemmas.Option.{slice_get-map}
use Rattle.tac_lines.specs.Forms.{Slot, fills}
use Rattle.tac_lines.specs.Tokens.{Token}
use Rattle.tac_lines.specs.code.Views.{fills_at, slot_view, token_view}
use Rattle.tac_lines.specs.declared.token.Token.{Token as Lexed}
use Rattle.tac_faults.proofs.places.stands.Goals as goal

filled : Slot → Option Token → Bool
filled slot o = elim o as (λ _. Bool) [ None ↦ false | Some t ↦ fills slot t.word ]

pub returns : goal.returns
unfolding filled
returns c text =
    ap (filled (slot_view c.args.slot)) (slice_get-map (token_view text) c.args.tokens.now c.args.at)
    ∙ by_token (slice_get c.args.tokens.now c.args.at)
    ∙ c.fits_at.ensures text
  where
    by_token : (o : Option Lexed) → filled (slot_view c.args.slot) (elim o as (λ _. Option Token) [ None ↦ None | Some t ↦ Some (token_view text t) ])
        ≡ fills_at text (slot_view c.args.slot) o
    by_token None = refl
    by_token (Some t) = refl
