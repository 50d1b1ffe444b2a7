-- One line more.
use Rattle.std.proofs.Common.{◌≡◌, ℕ, zero, List, [], ◌∷◌, ◌++◌, map, refl, sym, ap, ◌∙◌, append_assoc, Option, Some, None, slice_range}
use Rattle.tac_lines.specs.Tokens.{Token, Row, row_from, token_lines, unless_empty}
use Rattle.tac_lines.specs.code.Lexed.{some_of}
use Rattle.tac_lines.specs.code.Views.{tokens_view}
use Rattle.tac_lines.specs.declared.fault.Fault.{Fault}
use Rattle.tac_lines.specs.declared.token.Token.{Token as Lexed}

map-append : (text : List ℕ) (xs ys : List (List Lexed)) → map (tokens_view text) (xs ++ ys) ≡ map (tokens_view text) xs ++ map (tokens_view text) ys
map-append text [] ys = refl
map-append text (x ∷ xs) ys = ap (λ r. tokens_view text x ∷ r) (map-append text xs ys)

some_view : (text : List ℕ) (ts : List Lexed) → map (tokens_view text) (some_of ts) ≡ unless_empty (tokens_view text ts)
some_view text [] = refl
some_view text (t ∷ ts) = refl

pub lines_step : (text : List ℕ) (before now : List (List Lexed)) (ts : List Lexed) (bad : Option ℕ) (rows rest : List Row) (all : List (List Token))
    → rows ≡ record { tokens = tokens_view text ts; bad = bad } ∷ rest → now ≡ before ++ some_of ts
    → map (tokens_view text) before ++ token_lines rows ≡ all → map (tokens_view text) now ++ token_lines rest ≡ all
lines_step text before now ts bad rows rest all e f h =
    ap (λ r. map (tokens_view text) r ++ token_lines rest) f
    ∙ ap (λ r. r ++ token_lines rest) (map-append text before (some_of ts) ∙ ap (λ r. map (tokens_view text) before ++ r) (some_view text ts))
    ∙ append_assoc (map (tokens_view text) before) (unless_empty (tokens_view text ts)) (token_lines rest)
    ∙ ap (λ r. map (tokens_view text) before ++ token_lines r) (sym e)
    ∙ h

pub not_some : (o : Option Fault) → ((f : Fault) → o ≡ Some f → ⊥) → o ≡ None
not_some None h = refl
not_some (Some f) h = absurd (h f refl)

pub row_is : (text : List ℕ) (start stop : ℕ) (bad : Option ℕ) (ts us : List Lexed)
    → row_from start zero (slice_range text start stop) ≡ record { tokens = tokens_view text ts; bad = bad } → ts ≡ us
    → row_from start zero (slice_range text start stop) ≡ record { tokens = tokens_view text us; bad = bad }
row_is text start stop bad ts us e f = e ∙ ap (λ xs. let r : Row = record { tokens = tokens_view text xs; bad = bad } in r) f
