-- The words of a line in the layout of a listing, and that they read back.
use Rattle.std.proofs.Common.{◌≡◌, ℕ, Bool, true, false, not, ◌&&◌, ◌||◌, List, [], ◌∷◌, ◌++◌, decimal, append-nil, refl, sym, ap, ◌∙◌, true≢false}
use Rattle.std.specs.List.{AllByRecursion as Each, list_all}
use Rattle.std.proofs.lemmas.Bool.{or_right, and_parts}
use Rattle.tac_lines.specs.Tokens.{Word, name, number, fixed, Token, is_number}
use Rattle.tac_program.specs.Spelling.{is_letter, is_digit, is_name_byte, is_name}
use Rattle.tac_lines.specs.Forms.{Slot, operand, unary, fills, has_form, statements}
use Rattle.tac_reader.proofs.tokens.Bare.{words_of}
use Rattle.tac_reader.proofs.lines.FaultlessLines.{IsSoundWord}
use Rattle.tac_lines.proofs.tokens.Decimals.{is_number_decimal}
use Rattle.tac_reader.proofs.tokens.ReadWords.{spelled, ReadsLine, line_word, line_more, line_unary, line_none, starts_word}

-- Words that fill the places of a form.
abbrev pub Filled : List Slot → List Word → Type 0
Filled [] [] = Unit {0}
Filled [] (w ∷ ws) = ⊥
Filled (s ∷ ss) [] = ⊥
Filled (s ∷ ss) (w ∷ ws) = (fills s w ≡ true) × Filled ss ws

pub filled : (slots : List Slot) (ts : List Token) → has_form slots ts ≡ true → Filled slots (words_of ts)
filled [] [] h = tt
filled [] (t ∷ ts) h = absurd (true≢false (sym h))
filled (s ∷ ss) [] h = absurd (true≢false (sym h))
filled (s ∷ ss) (t ∷ ts) h = let parts = and_parts (fills s t.word) (has_form ss ts) h in (parts.0, filled ss ts parts.1)

abbrev pub gap_behind : Slot → List ℕ
gap_behind unary = []
gap_behind _ = 32 ∷ []

abbrev pub layout : List Slot → List Word → List ℕ
layout [] ws = []
layout (s ∷ ss) [] = []
layout (s ∷ []) (w ∷ ws) = spelled w
layout (s ∷ t ∷ ss) (w ∷ ws) = spelled w ++ (gap_behind s ++ layout (t ∷ ss) ws)

-- Whether an operand stands behind each unary sign.
abbrev is_operand : Slot → Bool
is_operand operand = true
is_operand _ = false

abbrev is_unary : Slot → Bool
is_unary unary = true
is_unary _ = false

abbrev pub laid : List Slot → Bool
laid [] = true
laid (s ∷ []) = true
laid (s ∷ t ∷ ss) = (not (is_unary s) || is_operand t) && laid (t ∷ ss)

pub statements_laid : list_all (λ row. laid row.1) statements ≡ true
statements_laid = refl

name_starts : (s rest : List ℕ) → is_name s ≡ true → starts_word (s ++ rest) ≡ true
name_starts [] rest h = absurd (true≢false (sym h))
name_starts (b ∷ bs) rest h = ap (λ x. x || is_digit b) (and_parts (is_letter b) (list_all is_name_byte bs) h).0

number_starts : (s rest : List ℕ) → is_number s ≡ true → starts_word (s ++ rest) ≡ true
number_starts [] rest h = absurd (true≢false (sym h))
number_starts (b ∷ bs) rest h = or_right (is_letter b) (is_digit b) (and_parts (is_digit b) (list_all is_digit bs) h).0

operand_starts : (w : Word) (rest : List ℕ) → IsSoundWord w → fills operand w ≡ true → starts_word (spelled w ++ rest) ≡ true
operand_starts (name s) rest h f = name_starts s rest h.spelled
operand_starts (number n) rest h f = number_starts (decimal n) rest (is_number_decimal n h)
operand_starts (fixed s) rest h f = absurd (true≢false (sym f))

layout_starts : (s : Slot) (ss : List Slot) (ws : List Word) → is_operand s ≡ true → Filled (s ∷ ss) ws → Each IsSoundWord ws
    → starts_word (layout (s ∷ ss) ws) ≡ true
layout_starts operand [] [] o h good = absurd h
layout_starts operand [] (w ∷ ws) o h good = ap starts_word (sym (append-nil (spelled w))) ∙ operand_starts w [] good.0 h.0
layout_starts operand (t ∷ ss) [] o h good = absurd h
layout_starts operand (t ∷ ss) (w ∷ ws) o h good = operand_starts w (32 ∷ layout (t ∷ ss) ws) good.0 h.0
layout_starts _ ss ws o h good = absurd (true≢false (sym o))

pub layout_reads : (slots : List Slot) (ws : List Word) → Filled slots ws → Each IsSoundWord ws → laid slots ≡ true → ReadsLine (layout slots ws) ws
layout_reads [] [] h good l = line_none
layout_reads [] (w ∷ ws) h good l = absurd h
layout_reads (s ∷ ss) [] h good l = absurd h
layout_reads (s ∷ []) (w ∷ []) h good l = line_word w good.0
layout_reads (s ∷ []) (w ∷ v ∷ ws) h good l = absurd h.1
layout_reads (s ∷ t ∷ ss) (w ∷ ws) h good l =
    let parts = and_parts (not (is_unary s) || is_operand t) (laid (t ∷ ss)) l in
    more s w h.0 good.0 parts.0 (layout_reads (t ∷ ss) ws h.1 good.1 parts.1)
  where
    signed : (u : Word) → fills unary u ≡ true → IsSoundWord u → is_operand t ≡ true → ReadsLine (layout (t ∷ ss) ws) ws
        → ReadsLine (spelled u ++ layout (t ∷ ss) ws) (u ∷ ws)
    signed (fixed x) f g o r = line_unary x (layout (t ∷ ss) ws) ws f (layout_starts t ss ws o h.1 good.1) r
    signed (name x) f g o r = absurd (true≢false (sym f))
    signed (number n) f g o r = absurd (true≢false (sym f))

    more : (p : Slot) (u : Word) → fills p u ≡ true → IsSoundWord u → (not (is_unary p) || is_operand t) ≡ true → ReadsLine (layout (t ∷ ss) ws) ws
        → ReadsLine (spelled u ++ (gap_behind p ++ layout (t ∷ ss) ws)) (u ∷ ws)
    more unary u f g o r = signed u f g o r
    more _ u f g o r = line_more u (layout (t ∷ ss) ws) ws g r
