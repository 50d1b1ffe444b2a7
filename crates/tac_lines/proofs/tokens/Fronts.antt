-- The last arms of the search for a piece: two bytes, one, or none.
use Rattle.std.proofs.Common.{◌≡◌, ◌≢◌, ℕ, ◌<◌, ◌≤◌, false, List, [], ◌∷◌, take, length, refl, sym, ◌∙◌, subst, arith, Option, Some, None}
use Rattle.std.proofs.Common.{get_or, slice_get, option_map}
use Rattle.std.proofs.lemmas.Bool.{ne_eqb}
use Rattle.std.proofs.lemmas.Option.{same_Some}
use Rattle.tac_lines.specs.Tokens.{Piece, gap, picked, longest, signs, is_blank}
use Rattle.tac_program.specs.Spelling.{is_letter, is_digit}
use Rattle.tac_program.specs.Names.{is_one_of}
use Rattle.tac_lines.specs.code.Views.{piece_at}
use Rattle.tac_lines.specs.declared.token.TokenKind.{TokenKind}
use Rattle.tac_lines.proofs.tokens.Pieces.{piece_of-other, two_longest, one_longest, none_longest}

-- what the tests have ruled out
pub record BeginsNoRun (b : ℕ) : Type 0 where
  pub letter : is_letter b ≡ false
  pub digit : is_digit b ≡ false
  pub hash : b ≢ 35

abbrev pub short : List ℕ → Option Piece
short s = picked false false (is_one_of s signs) (is_blank s) s

no_first : (x : ℕ) → ◌≡◌ {A = Option ℕ} (Some x) None → ⊥
no_first x e = cc

pub two_at : (s : List ℕ) (b : ℕ) (k : Option TokenKind) → Some b ≡ slice_get s 0 → 1 < length s → BeginsNoRun b
    → Some (piece_at (b ∷ get_or s 1 0 ∷ []) k) ≡ short (b ∷ get_or s 1 0 ∷ []) → longest s ≡ Some (2, piece_at (take 2 s) k)
two_at [] b k e long out piece = absurd (no_first b e)
two_at (x ∷ []) b k e long out piece = absurd (let never : ⊥ = omega (arith, long) in never)
two_at (x ∷ y ∷ s) b k e long out piece =
    let at : (c : ℕ) → Type 0 = λ c. longest (c ∷ y ∷ s) ≡ Some (2, piece_at (c ∷ y ∷ []) k) in
    subst at (same_Some b x e) (two_longest b out.letter out.digit (ne_eqb b 35 out.hash) y s (piece_at (b ∷ y ∷ []) k)
    (piece_of-other b out.letter out.digit (ne_eqb b 35 out.hash) (y ∷ []) ∙ sym piece))

-- no two bytes are a piece
abbrev pub NoPair : ℕ → List ℕ → Type 0
NoPair b s = (c : ℕ) → slice_get s 1 ≡ Some c → short (b ∷ c ∷ []) ≡ None

pub one_at : (s : List ℕ) (b : ℕ) (k : Option TokenKind) → Some b ≡ slice_get s 0 → BeginsNoRun b → NoPair b s
    → Some (piece_at (b ∷ []) k) ≡ short (b ∷ []) → longest s ≡ Some (1, piece_at (take 1 s) k)
one_at [] b k e out pair piece = absurd (no_first b e)
one_at (x ∷ s) b k e out pair piece =
    let at : (c : ℕ) → Type 0 = λ c. longest (c ∷ s) ≡ Some (1, piece_at (c ∷ []) k) in
    subst at (same_Some b x e) (one_longest b out.letter out.digit (ne_eqb b 35 out.hash) s (piece_at (b ∷ []) k) (λ c h.
    piece_of-other b out.letter out.digit (ne_eqb b 35 out.hash) (c ∷ [])
    ∙ pair c h) (piece_of-other b out.letter out.digit (ne_eqb b 35 out.hash) [] ∙ sym piece))

pub none_at : (s : List ℕ) (b : ℕ) → Some b ≡ slice_get s 0 → BeginsNoRun b → NoPair b s → short (b ∷ []) ≡ None → longest s ≡ None
none_at [] b e out pair piece = absurd (no_first b e)
none_at (x ∷ s) b e out pair piece =
    let at : (c : ℕ) → Type 0 = λ c. longest (c ∷ s) ≡ None in
    subst at (same_Some b x e)
    (none_longest b out.letter out.digit (ne_eqb b 35 out.hash) s (λ c h. piece_of-other b out.letter out.digit (ne_eqb b 35 out.hash) (c ∷ [])
    ∙ pair c h) (piece_of-other b out.letter out.digit (ne_eqb b 35 out.hash) [] ∙ piece))

get_second : (s : List ℕ) (c : ℕ) → slice_get s 1 ≡ Some c → get_or s 1 0 ≡ c
get_second [] c h = absurd (no_first c (sym h))
get_second (x ∷ []) c h = absurd (no_first c (sym h))
get_second (x ∷ y ∷ s) c h = same_Some y c h

pub no_pair : (s : List ℕ) (b : ℕ) (r : Option (Option TokenKind)) → ((k : Option TokenKind) → r ≡ Some k → ⊥)
    → option_map (piece_at (b ∷ get_or s 1 0 ∷ [])) r ≡ short (b ∷ get_or s 1 0 ∷ []) → NoPair b s
no_pair s b (Some k) none e c h = absurd (none k refl)
no_pair s b None none e c h = subst (λ d. short (b ∷ d ∷ []) ≡ None) (get_second s c h) (sym e)

pub too_few : (s : List ℕ) (b : ℕ) → length s ≤ 1 → NoPair b s
too_few [] b few c h = absurd (no_first c (sym h))
too_few (x ∷ []) b few c h = absurd (no_first c (sym h))
too_few (x ∷ y ∷ s) b few c h = absurd (let never : ⊥ = omega (arith, few) in never)

-- A space and a line feed are blanks whatever stands behind them.
pub space_at : (s : List ℕ) → longest (32 ∷ s) ≡ Some (1, gap)
space_at s = one_at (32 ∷ s) 32 None refl (record { letter = refl; digit = refl; hash = λ e. omega (arith, e) }) (λ c h. refl) refl

pub line_feed_at : (s : List ℕ) → longest (10 ∷ s) ≡ Some (1, gap)
line_feed_at s = one_at (10 ∷ s) 10 None refl (record { letter = refl; digit = refl; hash = λ e. omega (arith, e) }) (λ c h. refl) refl
