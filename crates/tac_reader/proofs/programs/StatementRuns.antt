-- The statements of lines, one line after another.
use Rattle.std.proofs.Common.{◌≡◌, ℕ, ◌+◌, ◌<◌, ◌==◌, true, false, List, [], ◌∷◌, ◌++◌, length, map, drop, refl, sym, ap, ◌∙◌, arith, slice_index_or}
use Rattle.std.proofs.Common.{append_assoc, true≢false}
use Rattle.std.proofs.lemmas.List.{at_drop_more}
use Rattle.tac_lines.specs.Tokens.{Token, unless_empty}
use Rattle.tac_lines.specs.Forms.{behind_labels}
use Rattle.tac_reader.specs.Sections.{statements_of}
use Rattle.tac_lines.specs.code.Ranges.{range_view}
use Rattle.tac_lines.specs.code.Views.{tokens_view}
use Rattle.tac_lines.specs.declared.lexed.LineRange.{LineRange}
use Rattle.tac_lines.specs.declared.token.Token.{Token as Lexed}

module _ (text : List ℕ) where
  pub unless_some : (tokens : List Lexed) → (length tokens == 0) ≡ false → unless_empty (tokens_view text tokens) ≡ tokens_view text tokens ∷ []
  unless_some [] h = absurd (true≢false h)
  unless_some (t ∷ tokens) h = refl

  pub unless_none : (tokens : List Lexed) → (length tokens == 0) ≡ true → unless_empty (tokens_view text tokens) ≡ []
  unless_none [] h = refl
  unless_none (t ∷ tokens) h = absurd (let never : ⊥ = grind (arith, h) in never)

  module _ (all : List Lexed) (lines : List LineRange) (at : ℕ) (d : LineRange) (tokens : List Lexed) (below : at < length lines)
      (behind : tokens_view text tokens ≡ behind_labels (range_view text all (slice_index_or lines at d))) where
    abbrev line_views : List LineRange → List (List Token)
    line_views lines = map (range_view text all) lines

    step : statements_of (line_views (drop at lines)) ≡ unless_empty (tokens_view text tokens) ++ statements_of (line_views (drop (at + 1) lines))
    step = at_drop_more (λ rest. statements_of (line_views rest)) lines at d below
        ∙ ap (λ ts. unless_empty ts ++ statements_of (line_views (drop (at + 1) lines))) (sym behind)

    with_one : (length tokens == 0) ≡ false
        → statements_of (line_views (drop at lines)) ≡ tokens_view text tokens ∷ statements_of (line_views (drop (at + 1) lines))
    with_one some = step ∙ ap (λ ts. ts ++ statements_of (line_views (drop (at + 1) lines))) (unless_some tokens some)

    with_none : (length tokens == 0) ≡ true → statements_of (line_views (drop at lines)) ≡ statements_of (line_views (drop (at + 1) lines))
    with_none none = step ∙ ap (λ ts. ts ++ statements_of (line_views (drop (at + 1) lines))) (unless_none tokens none)

    module _ {A : Type 0} (make : List Token → A) where
      pub made_one : (made next : List A) (one : A) (whole : List A) → (length tokens == 0) ≡ false → next ≡ made ++ one ∷ []
          → one ≡ make (tokens_view text tokens) → made ++ map make (statements_of (line_views (drop at lines))) ≡ whole
          → next ++ map make (statements_of (line_views (drop (at + 1) lines))) ≡ whole
      made_one made next one whole some pushed is before =
          let rest = map make (statements_of (line_views (drop (at + 1) lines))) in
          (λ i. pushed i ++ rest) ∙ append_assoc made (one ∷ []) rest ∙ ap (λ x. made ++ (x ∷ rest)) is
          ∙ ap (λ ss. made ++ map make ss) (sym (with_one some)) ∙ before

      pub made_none : (made next : List A) (whole : List A) → (length tokens == 0) ≡ true → next ≡ made → made ++ map make
          (statements_of (line_views (drop at lines))) ≡ whole → next ++ map make (statements_of (line_views (drop (at + 1) lines))) ≡ whole
      made_none made next whole none same before =
          (λ i. same i ++ map make (statements_of (line_views (drop (at + 1) lines)))) ∙ ap (λ ss. made ++ map make ss) (sym (with_none none))
          ∙ before
