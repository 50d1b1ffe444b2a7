-- Flags and marks of which none is set
use Rattle.std.proofs.Common.{◌≡◌, ℕ, false, Bool, List, get_or, replicate, inl, inr, sym, ap, ◌∙◌, arith}
use Rattle.std.proofs.lemmas.List.{get_or-replicate, get_or_past, length-replicate}
use Rattle.std.proofs.lemmas.Bool.{cases_lt, false≢true}
use Rattle.gk_solve.specs.Tables.Flags.{IsFlagged}

-- none of so many flags is set
pub unset : (n x : ℕ) → get_or (replicate n false) x false ≡ false
unset n x = elim (cases_lt x n) [
  | inl below ↦ get_or-replicate n x false false below
  | inr past ↦ get_or_past (replicate n false) x false (omega (arith, length-replicate n false))
]

-- nor of what is the same
pub none_flagged : (flags : List Bool) (n : ℕ) → flags ≡ replicate n false → (x : ℕ) → IsFlagged flags x → ⊥
none_flagged flags n blank x flagged = false≢true (sym (unset n x) ∙ (sym (ap (λ (l : List Bool). get_or l x false) blank) ∙ flagged))
