-- The words at places of a statement.
use Rattle.std.proofs.Common.{◌≡◌, ℕ, zero, suc, List, [], ◌∷◌, refl, sym, ap, ◌∙◌, Option, Some, None, slice_get, option_map, true, false, nat_lt}
use Rattle.std.proofs.Common.{length, get_or}
use Rattle.std.proofs.lemmas.Bool.{ltb-true, ltb-false}
use Rattle.std.proofs.lemmas.Option.{slice_get-get_or, slice_get_past}
use Rattle.tac_lines.specs.Tokens.{fixed}
use Rattle.tac_reader.specs.Parses.{operator_of}
use Rattle.tac_program.specs.Spelling.{sign_of}
use Rattle.tac_lines.specs.code.Views.{token_view, tokens_view}
use Rattle.tac_reader.specs.code.Built.{word_nth, word_or_none}
use Rattle.tac_program.specs.declared.program.Op.{Op}
use Rattle.tac_program.specs.declared.program.Op.TheVariants as op
use Rattle.tac_lines.specs.code.Views.{word_at, keyword_text}
use Rattle.tac_lines.specs.declared.token.Keyword.{Keyword}
use Rattle.tac_lines.specs.declared.token.Keyword.TheVariants as keyword
use Rattle.tac_lines.specs.declared.token.TokenKind.{TokenKind}
use Rattle.tac_lines.specs.declared.token.TokenKind.TheVariants as kind
use Rattle.tac_lines.specs.declared.token.Token.{Token as Lexed}

nth-view : (text : List ℕ) (ts : List Lexed) (at : ℕ) → slice_get (tokens_view text ts) at ≡ option_map (token_view text) (slice_get ts at)
nth-view text [] at = refl
nth-view text (t ∷ ts) zero = refl
nth-view text (t ∷ ts) (suc at) = nth-view text ts at

pub word-some : (text : List ℕ) (ts : List Lexed) (at : ℕ) (t : Lexed) → slice_get ts at ≡ Some t
    → word_nth (tokens_view text ts) at ≡ (token_view text t).word
word-some text ts at t e = ap word_or_none (nth-view text ts at ∙ ap (option_map (token_view text)) e)

pub word-none : (text : List ℕ) (ts : List Lexed) (at : ℕ) → slice_get ts at ≡ None → word_nth (tokens_view text ts) at ≡ fixed []
word-none text ts at e = ap word_or_none (nth-view text ts at ∙ ap (option_map (token_view text)) e)

pub sign_operator : (o : Op) → operator_of (fixed (sign_of o)) ≡ o
sign_operator op.Plus = refl
sign_operator _ = refl

keyword_operator : (k : Keyword) → operator_of (fixed (keyword_text k)) ≡ op.Plus
keyword_operator keyword.Proc = refl
keyword_operator _ = refl

-- What is no operator stands for none.
pub no_operator : (s : List ℕ) (k : TokenKind) → ((o : Op) → k ≡ kind.Operator o → ⊥) → operator_of (word_at s k) ≡ op.Plus
no_operator s kind.Name h = refl
no_operator s kind.Number h = refl
no_operator s kind.Colon h = refl
no_operator s kind.Equals h = refl
no_operator s (kind.Keyword k) h = keyword_operator k
no_operator s (kind.Operator o) h = absurd (h o refl)

pub get_some : (ts : List Lexed) (at : ℕ) (t : Lexed) → true ≡ nat_lt at (length ts) → t ≡ get_or ts at t → slice_get ts at ≡ Some t
get_some ts at t h e =
    slice_get-get_or ts at t (ltb-true at (length ts) (sym h)) ∙ ap (λ x. let o : Option Lexed = Some x in o) (sym e)

pub get_none : (ts : List Lexed) (at : ℕ) → false ≡ nat_lt at (length ts) → slice_get ts at ≡ None
get_none ts at h = slice_get_past ts at (ltb-false at (length ts) (sym h))
