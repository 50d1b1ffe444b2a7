-- Texts that lie one behind the other in one block of bytes, each behind the same separator.
use Rattle.std.specs.Prelude.{◌≡◌, ℕ, ◌+◌, ◌-◌, ◌<◌, ◌≤◌, List, [], ◌∷◌, ◌++◌, length, map, drop, slice_index, slice_range, codes}
use Rattle.std.specs.List.{range_with_len}
use Rattle.text_pieces.specs.code.Lists.{AreTexts}
use Rattle.text_pieces.specs.declared.separator.Separator.{Separator}
use Rattle.text_pieces.specs.declared.separator.Separator.TheVariants.{Comma, CommaAndBlank}

abbrev pub separator_text : Separator → List ℕ
separator_text Comma = codes ","
separator_text CommaAndBlank = codes ", "

-- texts by number, and what stands before each
pub record SeparatedTexts : Type 0 where
  pub between : List ℕ
  pub texts : List (List ℕ)

-- one text more
abbrev pub with_text : SeparatedTexts → List ℕ → SeparatedTexts
with_text block text = record { between = block.between; texts = block.texts ++ text ∷ [] }

-- The block has one text for each of the numbers below a count, and this between them.
pub record HoldsTexts (between : List ℕ) (named : ℕ → List ℕ) (count : ℕ) (block : SeparatedTexts) : Type 0 where
  pub separated : block.between ≡ between
  pub texts : AreTexts named count block.texts

-- what lies between two marks that stand side by side
abbrev pub part_of : List ℕ → List ℕ → ℕ → List ℕ
part_of bytes marks n = slice_range bytes (slice_index marks n) (slice_index marks (n + 1))

-- a part of a block is this text
pub record IsPart (between bytes marks : List ℕ) (n : ℕ) (text : List ℕ) : Type 0 where
  pub ordered : slice_index marks n ≤ slice_index marks (n + 1)
  pub within : slice_index marks (n + 1) ≤ length bytes
  pub part : part_of bytes marks n ≡ between ++ text

-- the texts without what stands before each
abbrev pub texts_of : List ℕ → List ℕ → List ℕ → List (List ℕ)
texts_of between bytes marks = map (λ n. drop (length between) (part_of bytes marks n)) (range_with_len 0 (length marks - 1))

-- Each part has the separator before its text, and the last one ends where the block does.
pub record IsBlock (between bytes marks : List ℕ) : Type 0 where
  pub some : 0 < length marks
  pub last : slice_index marks (length marks - 1) ≡ length bytes
  pub each : (n : ℕ) → n + 1 < length marks → IsPart between bytes marks n (drop (length between) (part_of bytes marks n))
