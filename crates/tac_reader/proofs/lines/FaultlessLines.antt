-- Lines without faults: their words, their forms, and the sections that they make.
use Rattle.std.proofs.Common.{◌≡◌, ℕ, zero, suc, ◌+◌, ◌-◌, Bool, true, false, not, cond, ◌&&◌, ◌||◌, List, [], ◌∷◌, ◌++◌, flat_map, length, take}
use Rattle.std.proofs.Common.{refl, sym, subst, Option, Some, None, is_some, true≢false, one-add, if◌then◌else◌, nat_lt, ◌≤◌, ◌⊎◌, inl, inr, codes}
use Rattle.std.proofs.lemmas.Bool.{and_parts, ltb-false}
use Rattle.std.specs.List.{AllByRecursion as Each, prefix_len, take_while}
use Rattle.std.proofs.lemmas.Option.{same_Some}
use Rattle.tac_lines.specs.Tokens.{Word, name, number, fixed, Token, Piece, word, gap, Row, is_number, is_blank, is_comment, signs, piece_of, picked}
use Rattle.tac_lines.specs.Tokens.{name_or_keyword, number_piece, longest, longest_of, before_row, row_from, rows_from, stop_of, bytes_of}
use Rattle.tac_lines.specs.Tokens.{spelling_of, unless_empty, token_lines}
use Rattle.tac_program.specs.Spelling.{is_name, keywords}
use Rattle.tac_program.specs.Names.{is_one_of}
use Rattle.tac_lines.specs.Forms.{key, fills, is_name_word, has_form, proc_form, end_form, forms_for, some_form, first_wrong, is_inner}
use Rattle.tac_reader.specs.Sections.{Section, opened_by, sections_in}
use Rattle.tac_lines.specs.LineFaults.{at, word_fault, bad_fault, form_fault, row_faults, inside_after, line_faults}
use Rattle.tac_program.specs.Limits.{largest_number, longest_name}
use Rattle.tac_program.specs.Sound.{IsLawfulName}
use Rattle.tac_lines.specs.code.Views.{prefix_of, others_of}
use Rattle.tac_lines.specs.declared.fault.Fault.{Fault}
use Rattle.tac_lines.specs.declared.refusal.RefusalKind.TheVariants as kind
use Rattle.tac_program.proofs.lists.Elements.{each-append, no_left, no_right}

-- What the spelling of a word says of it.
abbrev IsSpelledWord : Word → Type 0
IsSpelledWord (name s) = (is_name s ≡ true) × (is_one_of s keywords ≡ false)
IsSpelledWord (number n) = Unit {0}
IsSpelledWord (fixed s) = (is_one_of s keywords ≡ true) ⊎ (is_one_of s signs ≡ true)

abbrev IsSpelledPiece : Piece → Type 0
IsSpelledPiece gap = Unit {0}
IsSpelledPiece (word w) = IsSpelledWord w

-- A word that is not too long or too large.
abbrev pub IsSoundWord : Word → Type 0
IsSoundWord (name s) = IsLawfulName s
IsSoundWord (number n) = n ≤ largest_number
IsSoundWord (fixed s) = (is_one_of s keywords ≡ true) ⊎ (is_one_of s signs ≡ true)

abbrev pub Sound : Token → Type 0
Sound t = IsSoundWord t.word

abbrev Spelled : Token → Type 0
Spelled t = IsSpelledWord t.word

named_spelled : (s : List ℕ) → is_name s ≡ true → IsSpelledPiece (name_or_keyword s)
named_spelled s h = by_test (is_one_of s keywords) refl where
  by_test : (b : Bool) → is_one_of s keywords ≡ b → IsSpelledWord (if b then fixed s else name s)
  by_test true e = inl e
  by_test false e = (h, e)

piece_spelled : (s : List ℕ) (p : Piece) → piece_of s ≡ Some p → IsSpelledPiece p
piece_spelled s p e = go (is_name s) (is_number s) (is_one_of s signs) (is_blank s || is_comment s) refl refl e where
  go : (a b c d : Bool) → is_name s ≡ a → is_one_of s signs ≡ c → picked a b c d s ≡ Some p → IsSpelledPiece p
  go true b c d h l k = subst IsSpelledPiece (same_Some (name_or_keyword s) p k) (named_spelled s h)
  go false true c d h l k = subst IsSpelledPiece (same_Some (number_piece s) p k) tt
  go false false true d h l k = subst IsSpelledPiece (same_Some (word (fixed s)) p k) (inr l)
  go false false false true h l k = subst IsSpelledPiece (same_Some gap p k) tt
  go false false false false h l k = absurd (cc k)

longest_spelled : (n : ℕ) (bytes : List ℕ) (found : ℕ × Piece) → longest_of n bytes ≡ Some found → IsSpelledPiece found.1
longest_spelled zero bytes found e = absurd (cc e)
longest_spelled (suc n) bytes found e = go (piece_of (take (suc n) bytes)) refl e (longest_spelled n bytes found) where
  go : (o : Option Piece) → piece_of (take (suc n) bytes) ≡ o
      → (elim o as (λ _. Option (ℕ × Piece)) [ Some p ↦ Some (suc n, p) | None ↦ longest_of n bytes ]) ≡ Some found
      → (longest_of n bytes ≡ Some found → IsSpelledPiece found.1) → IsSpelledPiece found.1
  go (Some p) h k later = subst (λ f. IsSpelledPiece f.1) (same_Some (suc n, p) found k) (piece_spelled (take (suc n) bytes) p h)
  go None h k later = later k

before_spelled : (p : Piece) (start stop : ℕ) (row : Row) → IsSpelledPiece p → Each Spelled row.tokens
    → Each Spelled (before_row p start stop row).tokens
before_spelled gap start stop row h k = k
before_spelled (word w) start stop row h k = (h, k)

row_spelled : (place inside : ℕ) (bytes : List ℕ) → Each Spelled (row_from place inside bytes).tokens
row_spelled place inside [] = tt
row_spelled place (suc inside) (b ∷ bs) = row_spelled (suc place) inside bs
row_spelled place zero (b ∷ bs) = go (longest (b ∷ bs)) refl (λ n. row_spelled (suc place) n bs) where
  go : (o : Option (ℕ × Piece)) → longest (b ∷ bs) ≡ o → ((n : ℕ) → Each Spelled (row_from (suc place) n bs).tokens)
      → Each Spelled (elim o as (λ _. Row) [
        | None ↦ record { tokens = []; bad = Some place }
        | Some found ↦ before_row found.1 place (place + found.0) (row_from (suc place) (found.0 - 1) bs)
      ]).tokens
  go None h rest = tt
  go (Some found) h rest = before_spelled found.1 place (place + found.0) (row_from (suc place) (found.0 - 1) bs)
      (longest_spelled (length (b ∷ bs)) (b ∷ bs) found h) (rest (found.0 - 1))

pub rows_spelled : (place : ℕ) (ls : List (List ℕ)) → Each (λ row. Each Spelled row.tokens) (rows_from place ls)
rows_spelled place [] = tt
rows_spelled place (l ∷ ls) = (row_spelled place zero l, rows_spelled (place + length l) ls)

-- Words without a fault are sound.
word_sound : (w : Word) (start : ℕ) → IsSpelledWord w → word_fault (record { word = w; start = start; stop = start }) ≡ [] → IsSoundWord w
word_sound (name s) start h e = by_test (nat_lt longest_name (length s)) refl e where
  by_test : (b : Bool) → nat_lt longest_name (length s) ≡ b → (if b then at kind.NameTooLong start else []) ≡ [] → IsLawfulName s
  by_test true k none = absurd (cc none)
  by_test false k none = record { spelled = h.0; not_reserved = h.1; short = ltb-false longest_name (length s) k }
word_sound (number n) start h e = by_test (nat_lt largest_number n) refl e where
  by_test : (b : Bool) → nat_lt largest_number n ≡ b → (if b then at kind.NumberTooLarge start else []) ≡ [] → n ≤ largest_number
  by_test true k none = absurd (cc none)
  by_test false k none = ltb-false largest_number n k
word_sound (fixed s) start h e = h

words_sound : (ts : List Token) → Each Spelled ts → flat_map word_fault ts ≡ [] → Each Sound ts
words_sound [] h e = tt
words_sound (t ∷ ts) h e = (
  word_sound t.word t.start h.0 (no_left (word_fault t) (flat_map word_fault ts) e),
  words_sound ts h.1 (no_right (word_fault t) (flat_map word_fault ts) e),
)

-- A line without faults, inside a procedure or outside.
pub record IsFaultless (inside : Bool) (line : List Token) : Type 0 where
  pub words : Each Sound line
  pub form : some_form (forms_for inside (prefix_of inside line)) (others_of inside line) ≡ true

no_bad : (bad : Option ℕ) → bad_fault bad ≡ [] → is_some bad ≡ false
no_bad None e = refl
no_bad (Some place) e = absurd (cc e)

form_whole : (inside : Bool) (row : Row) → is_some row.bad ≡ false → form_fault inside row ≡ []
    → some_form (forms_for inside (prefix_of inside row.tokens)) (others_of inside row.tokens) ≡ true
form_whole inside row whole e =
    go (first_wrong (forms_for inside (prefix_of inside row.tokens)) [] (others_of inside row.tokens))
    (some_form (forms_for inside (prefix_of inside row.tokens)) (others_of inside row.tokens)) (is_some row.bad) whole e
  where
    go : (o : Option Token) (s cut : Bool) → cut ≡ false
        → (elim o as (λ _. List Fault) [ Some t ↦ at kind.Syntax t.start | None ↦ (if s || cut then [] else at kind.Syntax (stop_of row.tokens)) ])
        ≡ [] → s ≡ true
    go (Some t) s cut h k = absurd (cc k)
    go None true cut h k = refl
    go None false true h k = absurd (true≢false h)
    go None false false h k = absurd (cc k)

row_faultless : (inside : Bool) (row : Row) → Each Spelled row.tokens → row_faults inside row ≡ [] → IsFaultless inside row.tokens
row_faultless inside row h e =
    let bad : List Fault = bad_fault row.bad in
    let words : List Fault = flat_map word_fault row.tokens in
    let front : bad ++ words ≡ [] = no_left (bad ++ words) (form_fault inside row) e in
    record {
      words = words_sound row.tokens h (no_right bad words front);
      form = form_whole inside row (no_bad row.bad (no_left bad words front)) (no_right (bad ++ words) (form_fault inside row) e);
    }

-- Lines without faults, one after another.
abbrev pub after : Bool → List Token → Bool
after inside line = if has_form proc_form line then true else if has_form end_form line then false else inside

abbrev pub AllFaultless : Bool → List (List Token) → Type 0
AllFaultless inside [] = Unit {0}
AllFaultless inside (line ∷ others) = IsFaultless inside line × AllFaultless (after inside line) others

pub lines_faultless : (inside : Bool) (end : ℕ) (rs : List Row) → Each (λ row. Each Spelled row.tokens) rs → line_faults inside end rs ≡ []
    → AllFaultless inside (token_lines rs)
lines_faultless inside end [] h e = tt
lines_faultless inside end (row ∷ rs) h e =
    let rest : List Fault = line_faults (inside_after inside row) end rs in
    go row.tokens (row_faultless inside row h.0 (no_left (row_faults inside row) rest e))
    (lines_faultless (inside_after inside row) end rs h.1 (no_right (row_faults inside row) rest e))
  where
    go : (ts : List Token) → IsFaultless inside ts → AllFaultless (after inside ts) (token_lines rs)
        → AllFaultless inside (unless_empty ts ++ token_lines rs)
    go [] f k = k
    go (t ∷ ts) f k = (f, k)

-- A line of a procedure.
abbrev pub Inner : List Token → Type 0
Inner line = IsFaultless true line × (is_inner line ≡ true)

pub record IsFaultlessSection (s : Section) : Type 0 where
  pub named : is_name_word s.title.word ≡ true
  pub word : Sound s.title
  pub title : IsLawfulName (spelling_of s.title)
  pub lines : Each Inner s.body

inside_on : (line : List Token) → is_inner line ≡ true → after true line ≡ true
inside_on line h = go (has_form proc_form line) (has_form end_form line) h where
  go : (a b : Bool) → not (a || b) ≡ true → (if a then true else if b then false else true) ≡ true
  go true b k = refl
  go false true k = absurd (true≢false (sym k))
  go false false k = refl

body_inner : (ls : List (List Token)) → AllFaultless true ls → Each Inner (take_while is_inner ls)
body_inner [] h = tt
body_inner (line ∷ ls) h = by_test (is_inner line) refl (λ k. body_inner ls k) where
  by_test : (b : Bool) → is_inner line ≡ b → (AllFaultless true ls → Each Inner (take_while is_inner ls))
      → Each Inner (take (cond b (1 + prefix_len is_inner ls) 0) (line ∷ ls))
  by_test true e later = rw one-add ((h.0, e), later (subst (λ i. AllFaultless i ls) (inside_on line e) h.1))
  by_test false e later = tt

named : (w : Word) → is_name_word w ≡ true → IsSoundWord w → IsLawfulName (bytes_of w)
named (name s) e h = h
named (number n) e h = absurd (true≢false (sym e))
named (fixed s) e h = absurd (true≢false (sym e))

pub name_lawful : (t : Token) → is_name_word t.word ≡ true → Sound t → IsLawfulName (spelling_of t)
name_lawful t e h = named t.word e h

opened : (line : List Token) (others : List (List Token)) → has_form proc_form line ≡ true → Each Sound line → AllFaultless true others
    → Each IsFaultlessSection (opened_by line others)
opened [] others e h k = tt
opened (t ∷ []) others e h k = tt
opened (t ∷ u ∷ ts) others e h k =
    let behind = and_parts (fills (key (codes "proc")) t.word) (is_name_word u.word && has_form [] ts) e in
    let named = (and_parts (is_name_word u.word) (has_form [] ts) behind.1).0 in
    (record { named = named; word = h.1.0; title = name_lawful u named h.1.0; lines = body_inner others k }, tt)

pub sections_faultless : (inside : Bool) (ls : List (List Token)) → AllFaultless inside ls → Each IsFaultlessSection (sections_in ls)
sections_faultless inside [] h = tt
sections_faultless inside (line ∷ others) h =
    each-append IsFaultlessSection (if has_form proc_form line then opened_by line others else []) (sections_in others)
    (by_test (has_form proc_form line) refl (h.0).words h.1) (sections_faultless (after inside line) others h.1)
  where
    by_test : (b : Bool) → has_form proc_form line ≡ b → Each Sound line → AllFaultless (if b then true else if has_form end_form line then false
        else inside) others → Each IsFaultlessSection (if b then opened_by line others else [])
    by_test true e f k = opened line others e f k
    by_test false e f k = tt
