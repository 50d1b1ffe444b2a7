-- Hints one after another, and tokens that are counted.
use Rattle.std.proofs.Common.{◌≡◌, ℕ, ◌+◌, ◌<◌, Bool, true, false, List, [], ◌∷◌, ◌++◌, map, drop, refl, sym, ap, ◌∙◌, slice_index_or}
use Rattle.std.proofs.Common.{Option, Some, None}
use Rattle.std.proofs.Common.{count_by, length, if◌then◌else◌, arith, cond}
use Rattle.std.proofs.lemmas.List.Sums.{sum_by-cons}
use Rattle.std.proofs.lemmas.Option.{slice_get-get_or, slice_get-map}
use Rattle.tac_lines.specs.Forms.{Slot, fills, behind_labels}
use Rattle.tac_lines.specs.Tokens.{Token, unless_empty}
use Rattle.tac_lines.specs.code.Views.{token_view, tokens_view}
use Rattle.tac_lines.specs.declared.token.Token.{Token as Lexed}
use Rattle.tac_lines.specs.declared.token.TokenKind.TheVariants as kind
use Rattle.tac_reader.specs.Sections.{statements_of}
use Rattle.tac_reader.proofs.sections.SectionSteps.{rest_at}
use Rattle.tac_faults.specs.Hints.Choices.{any_hint, or_hint}
use Rattle.tac_faults.specs.Hints.Places.{stands}
use Rattle.tac_faults.specs.declared.slips.Hint.{Hint}
use Rattle.tac_faults.specs.declared.slips.Hint.TheVariants as hint

or_assoc : (a b c : Hint) → or_hint (or_hint a b) c ≡ or_hint a (or_hint b c)
or_assoc hint.None b c = refl
or_assoc _ b c = refl

module _ {L V : Type 0} (of : V → Hint) (view : L → V) where
  -- The hint of one element more.
  pub any_more : (xs : List L) (i : ℕ) (d : L) (old part now whole : Hint) → i < length xs → part ≡ of (view (slice_index_or xs i d))
      → now ≡ or_hint old part → or_hint old (any_hint of (map view (drop i xs))) ≡ whole
      → or_hint now (any_hint of (map view (drop (i + 1) xs))) ≡ whole
  any_more xs i d old part now whole below is told before =
      let others : Hint = any_hint of (map view (drop (i + 1) xs)) in
      ap (λ h. or_hint h others) told
      ∙ or_assoc old part others
      ∙ ap (λ h. or_hint old (or_hint h others)) is
      ∙ ap (or_hint old) (sym (ap (λ r. any_hint of (map view r)) (rest_at xs i d below)))
      ∙ before

-- Hints of statements, line by line: a line without a statement has none.
module _ (of : List Token → Hint) (none : of [] ≡ hint.None) where
  pub any_lines : (lines : List (List Token)) → any_hint (λ line. of (behind_labels line)) lines ≡ any_hint of (statements_of lines)
  any_lines [] = refl
  any_lines (line ∷ lines) =
      ap (or_hint (of (behind_labels line))) (any_lines lines) ∙ by_statement (behind_labels line) (statements_of lines)
    where
      by_statement : (ts : List Token) (others : List (List Token)) → or_hint (of ts) (any_hint of others) ≡ any_hint of (unless_empty ts ++ others)
      by_statement [] others = ap (λ h. or_hint h (any_hint of others)) none
      by_statement (t ∷ ts) others = refl

-- The token that stands at a place.
pub stands-at : (slot : Slot) (text : List ℕ) (tokens : List Lexed) (i : ℕ) (d : Lexed) → i < length tokens
    → stands slot (tokens_view text tokens) i ≡ fills slot (token_view text (slice_index_or tokens i d)).word
stands-at slot text tokens i d below =
    ap (λ o. elim o as (λ _. Bool) [ None ↦ false | Some t ↦ fills slot t.word ])
    (slice_get-map (token_view text) tokens i
    ∙ ap (λ o. elim o as (λ _. Option Token) [ None ↦ None | Some t ↦ Some (token_view text t) ]) (slice_get-get_or tokens i d below))

-- A token where there is none.
no_token : Lexed
no_token = record { kind = kind.Colon; start = 0; stop = 0 }

-- One token more that is counted, or not.
pub counted_more : (slot : Slot) (text : List ℕ) (tokens : List Lexed) (i : ℕ) (old now whole : ℕ) (b : Bool) → i < length tokens
    → stands slot (tokens_view text tokens) i ≡ b → now ≡ (if b then old + 1 else old)
    → old + count_by (λ (t : Token). fills slot t.word) (tokens_view text (drop i tokens)) ≡ whole
    → now + count_by (λ (t : Token). fills slot t.word) (tokens_view text (drop (i + 1) tokens)) ≡ whole
counted_more slot text tokens i old now whole b below e told before =
    by_test b told (ap (λ ts. count_by is (tokens_view text ts)) (rest_at tokens i no_token below)
    ∙ sum_by-cons (λ (t : Token). cond (is t) 1 0) (token_view text (slice_index_or tokens i no_token)) (tokens_view text (drop (i + 1) tokens))
    ∙ ap (λ t. cond t 1 0 + others) (sym (stands-at slot text tokens i no_token below) ∙ e))
  where
    is : Token → Bool
    is t = fills slot t.word

    others : ℕ
    others = count_by is (tokens_view text (drop (i + 1) tokens))

    by_test : (t : Bool) → now ≡ (if t then old + 1 else old) → count_by is (tokens_view text (drop i tokens)) ≡ cond t 1 0 + others
        → now + others ≡ whole
    by_test true k s = omega (arith, k, s, before)
    by_test false k s = omega (arith, k, s, before)
