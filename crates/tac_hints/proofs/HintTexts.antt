-- Lines that are asked which procedure they open, one after another.
use Rattle.std.proofs.Common.{◌≡◌, ℕ, zero, suc, ◌+◌, ◌-◌, ◌<◌, ◌≤◌, List, [], ◌∷◌, length, take, drop, refl, sym, ap, ◌∙◌, arith, slice_range}
use Rattle.std.proofs.lemmas.List.{drop_all}
use Rattle.tac_lines.specs.Text.{lines}
use Rattle.tac_lines.specs.Tokens.{Row, row_from, rows_from}
use Rattle.tac_lines.proofs.lines.FaultPlaces.{rows_step}
use Rattle.tac_hints.specs.Texts.{opened_hint, opened_line}
use Rattle.tac_faults.specs.declared.slips.Hint.{Hint}

-- One line is asked.
pub opened_more : (text : List ℕ) (left at stop line : ℕ) (row : Row) (old now whole : Hint) → 0 < left
    → lines (drop at text) ≡ slice_range text at stop ∷ lines (drop stop text) → at < stop → stop ≤ length text
    → row_from at zero (slice_range text at stop) ≡ row → opened_line line row.tokens old ≡ now
    → opened_hint line (take left (rows_from at (lines (drop at text)))) old ≡ whole
    → opened_hint (line + 1) (take (left - 1) (rows_from stop (lines (drop stop text)))) now ≡ whole
opened_more text zero at stop line row old now whole some cut behind within e told before = absurd (let never : ⊥ = omega (arith, some) in never)
opened_more text (suc left) at stop line row old now whole some cut behind within e told before =
    (λ i. opened_hint (line + 1) (take ((let k : suc left - 1 ≡ left = omega arith in k) i) (rows_from stop (lines (drop stop text)))) (sym told i))
    ∙ sym (ap (λ rs. opened_hint line (take (suc left) rs) old) (rows_step text at stop row cut behind within e))
    ∙ before

-- No line is left.
pub opened_past : (text : List ℕ) (left at line : ℕ) (old whole : Hint) → length text ≤ at
    → opened_hint line (take left (rows_from at (lines (drop at text)))) old ≡ whole → old ≡ whole
opened_past text left at line old whole past before =
    sym (ap (λ t. opened_hint line (take left (rows_from at (lines t))) old) (drop_all at text past) ∙ by_number left) ∙ before
  where
    by_number : (k : ℕ) → opened_hint line (take k []) old ≡ old
    by_number zero = refl
    by_number (suc k) = refl

pub opened_none : (text : List ℕ) (left at line : ℕ) (old whole : Hint) → left ≡ 0
    → opened_hint line (take left (rows_from at (lines (drop at text)))) old ≡ whole → old ≡ whole
opened_none text left at line old whole none before =
    sym (ap (λ k. opened_hint line (take k (rows_from at (lines (drop at text)))) old) none) ∙ before
