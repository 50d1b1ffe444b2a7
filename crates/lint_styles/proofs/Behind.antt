-- The lines of a text
use Rattle.std.proofs.Common.{◌≡◌, ℕ, zero, suc, ◌+◌, ◌-◌, ◌≤◌, cond, true, false, List, [], ◌∷◌, ◌++◌, length, decimal, max, ap, ◌∙◌, refl, arith, length-append}
use Rattle.std.proofs.lemmas.List.{length-replicate}
use Rattle.tac_lines.specs.Text.{is_line_end}
use Rattle.lint_styles.specs.Styles.{behind_lines, blanks, margin}

pub behind_none : (count : ℕ) → behind_lines count [] ≡ []
behind_none zero = refl
behind_none (suc count) = refl

module _ (left more b : ℕ) (bs : List ℕ) (some : left ≡ suc more) where
  pub behind_end : is_line_end b ≡ true → behind_lines left (b ∷ bs) ≡ behind_lines more bs
  behind_end is =
      ap (λ n. behind_lines n (b ∷ bs)) some ∙ ap (λ t. cond t (behind_lines more bs) (behind_lines (suc more) bs)) is

  pub behind_byte : is_line_end b ≡ false → behind_lines left (b ∷ bs) ≡ behind_lines (suc more) bs
  behind_byte is =
      ap (λ n. behind_lines n (b ∷ bs)) some ∙ ap (λ t. cond t (behind_lines more bs) (behind_lines (suc more) bs)) is

-- how wide the number of a line stands
pub length-margin : (number digits width : ℕ) → digits ≡ length (decimal number) → width ≡ max digits 5 → width ≡ length (margin number)
length-margin number digits width are is =
    let room : ℕ = 5 - length (decimal number) in
    omega (arith, are, is, length-append (blanks room) (decimal number), length-replicate {A = ℕ} room 32)
