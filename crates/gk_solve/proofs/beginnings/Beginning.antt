-- A table of summaries at its beginning
use Rattle.std.proofs.Common.{◌≡◌, ◌≢◌, ◌<◌, ◌-◌, ◌^◌, ◌⊎◌, inl, inr, length, get_or, set, replicate, true, ℕ, List, [], arith, sym, ◌∙◌, subst, ap}
use Rattle.std.proofs.lemmas.Bool.{cases_eq, cases_lt, false≢true}
use Rattle.std.proofs.lemmas.List.{get_or-replicate, get_or_past, length-replicate}
use Rattle.bit_rows.specs.Words.{has_bit}
use Rattle.bit_rows.proofs.words.WordBits.{has_bit-zero, has_bit-max}
use Rattle.summary_equations.specs.Equations.{brought_by_boundary, preserved_at_entry}
use Rattle.gk_solve.specs.Tables.Brought.{AreSoundBrought, brought_word}
use Rattle.gk_solve.specs.Tables.Groups.{Group, AreSoundSummaries, preserved_word, generated_word, summary_at}
use Rattle.gk_solve.specs.Tables.Words.{HasBit, AreSoundWords, IsBrought, IsPreserved, IsGenerated}
use Rattle.gk_solve.specs.declared.summary.Summary.{Summary}
use Rattle.std.proofs.lemmas.List.{get_or-set_same, get_or-set_other}

pub no_bit : (W w k : ℕ) → has_bit (get_or (replicate W 0) w 0) k ≡ true → ⊥
no_bit W w k has = elim (cases_lt w W) [
  | inl within ↦ false≢true (sym (has_bit-zero k) ∙ (ap (λ n. has_bit n k) (sym (get_or-replicate W w 0 0 within)) ∙ has))
  | inr past ↦ false≢true
      (sym (has_bit-zero k) ∙ (ap (λ n. has_bit n k) (sym (get_or_past (replicate W 0) w 0 (omega (arith, length-replicate {A = ℕ} W 0)))) ∙ has))
]

pub each_bit : (W w k : ℕ) → w < W → k < 64 → has_bit (get_or (replicate W (2 ^ 64 - 1)) w 0) k ≡ true
each_bit W w k within low = ap (λ n. has_bit n k) (get_or-replicate W w (2 ^ 64 - 1) 0 within) ∙ has_bit-max k low

abbrev pub blank_summary : (W : ℕ) → Summary W
blank_summary W = record { preserved = replicate W 0; generated = replicate W 0 }

abbrev pub entry_summary : (W : ℕ) → Summary W
entry_summary W = record { preserved = replicate W (2 ^ 64 - 1); generated = replicate W 0 }

-- blank summaries have no bits
pub blank_sound : (W : ℕ) (group : Group) (table : List (Summary W))
    → ((j : ℕ) (d : Summary W) → j < length table → get_or table j d ≡ blank_summary W) → AreSoundSummaries group table
blank_sound W group table blank w inside = (λ x k low has. absurd (preserved x k has), λ x k low has. absurd (generated x k has))
  where
    preserved : (x k : ℕ) → HasBit (preserved_word table w) x k → ⊥
    preserved x k has = elim (cases_lt x (length table)) [
      | inl within ↦
          no_bit W w k (ap (λ (s : Summary W). has_bit (get_or s.preserved w 0) k) (sym (blank x (record { preserved = []; generated = [] }) within)) ∙ has)
      | inr past ↦ false≢true (sym (has_bit-zero k)
          ∙ (ap (λ (s : Summary W). has_bit (get_or s.preserved w 0) k) (sym (get_or_past table x (record { preserved = []; generated = [] }) past)) ∙ has))
    ]

    generated : (x k : ℕ) → HasBit (generated_word table w) x k → ⊥
    generated x k has = elim (cases_lt x (length table)) [
      | inl within ↦
          no_bit W w k (ap (λ (s : Summary W). has_bit (get_or s.generated w 0) k) (sym (blank x (record { preserved = []; generated = [] }) within)) ∙ has)
      | inr past ↦ false≢true (sym (has_bit-zero k)
          ∙ (ap (λ (s : Summary W). has_bit (get_or s.generated w 0) k) (sym (get_or_past table x (record { preserved = []; generated = [] }) past)) ∙ has))
    ]

-- an entry more keeps everything
module _ (W : ℕ) (group : Group) (table : List (Summary W)) (procedure at : ℕ) (within : at < length table)
    (there : procedure < group.shape.procedures) (at_is : at ≡ group.shape.entry procedure) where
  written : summary_at (set table at (entry_summary W)) at ≡ entry_summary W
  written = get_or-set_same table at (entry_summary W) (record { preserved = []; generated = [] }) within

  unwritten : (x : ℕ) → x ≢ at → summary_at (set table at (entry_summary W)) x ≡ summary_at table x
  unwritten x other = get_or-set_other table at x (entry_summary W) (record { preserved = []; generated = [] }) other

  pub entry_sound : AreSoundSummaries group table → AreSoundSummaries group (set table at (entry_summary W))
  entry_sound sound w inside = (preserved, generated)
    where
      preserved : AreSoundWords (IsPreserved group.shape (group.transfer w)) (preserved_word (set table at (entry_summary W)) w)
      preserved x k low has = elim (cases_eq x at) [
        | inl same ↦ subst (IsPreserved group.shape (group.transfer w) k) (sym (same ∙ at_is)) (preserved_at_entry procedure there)
        | inr other ↦ (sound w inside).0 x k low (sym (ap (λ (s : Summary W). has_bit (get_or s.preserved w 0) k) (unwritten x other)) ∙ has)
      ]

      generated : AreSoundWords (IsGenerated group.shape (group.transfer w)) (generated_word (set table at (entry_summary W)) w)
      generated x k low has = elim (cases_eq x at) [
        | inl same ↦ absurd (no_bit W w k (sym (ap (λ (s : Summary W). has_bit (get_or s.generated w 0) k) written)
            ∙ (ap (λ n. has_bit (generated_word (set table at (entry_summary W)) w n) k) (sym same) ∙ has)))
        | inr other ↦ (sound w inside).1 x k low (sym (ap (λ (s : Summary W). has_bit (get_or s.generated w 0) k) (unwritten x other)) ∙ has)
      ]

  here : (x w k : ℕ) → w < W → k < 64 → x ≡ at → HasBit (preserved_word (set table at (entry_summary W)) w) x k
  here x w k inside low same = ap (λ n. has_bit (preserved_word (set table at (entry_summary W)) w n) k) same
      ∙ (ap (λ (s : Summary W). has_bit (get_or s.preserved w 0) k) written ∙ each_bit W w k inside low)

  pub entry_more : (x w k : ℕ) → w < W → k < 64 → (x ≡ at) ⊎ HasBit (preserved_word table w) x k
      → HasBit (preserved_word (set table at (entry_summary W)) w) x k
  entry_more x w k inside low (inl same) = here x w k inside low same
  entry_more x w k inside low (inr had) = elim (cases_eq x at) [
    | inl same ↦ here x w k inside low same
    | inr other ↦ ap (λ (s : Summary W). has_bit (get_or s.preserved w 0) k) (unwritten x other) ∙ had
  ]

-- ---- what is brought at its beginning: the boundary to the root
pub root_sound : (W : ℕ) (group : Group) (table : List (List ℕ)) (root : ℕ) (boundary : List ℕ) → root < length table
    → root ≡ group.shape.root_procedure
    → ((j : ℕ) (d : List ℕ) → j < length table → get_or table j d ≡ replicate W 0)
    → ((w k : ℕ) → w < group.width → k < 64 → has_bit (get_or boundary w 0) k ≡ (group.transfer w k).boundary)
    → AreSoundBrought group (set table root boundary)
root_sound W group table root boundary within root_is blank are w inside x k low has = elim (cases_eq x root) [
  | inl same ↦ subst (IsBrought group.shape (group.transfer w) k) (sym (same ∙ root_is))
      (brought_by_boundary
      (sym (are w k inside low) ∙ (sym (ap (λ (row : List ℕ). has_bit (get_or row w 0) k) (get_or-set_same table root boundary [] within))
      ∙ (ap (λ n. has_bit (brought_word (set table root boundary) w n) k) (sym same) ∙ has))))
  | inr other ↦ absurd (no_row x (sym (ap (λ (row : List ℕ). has_bit (get_or row w 0) k) (get_or-set_other table root x boundary [] other)) ∙ has))
]
  where
    no_row : (x : ℕ) → HasBit (brought_word table w) x k → ⊥
    no_row x has = elim (cases_lt x (length table)) [
      | inl low_x ↦ no_bit W w k (ap (λ (row : List ℕ). has_bit (get_or row w 0) k) (sym (blank x [] low_x)) ∙ has)
      | inr past ↦ false≢true (sym (has_bit-zero k) ∙ (ap (λ (row : List ℕ). has_bit (get_or row w 0) k) (sym (get_or_past table x [] past)) ∙ has))
    ]
