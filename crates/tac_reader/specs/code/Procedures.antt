-- Labels by the lines that they stand before.
use Rattle.std.specs.Prelude.{ℕ, zero, suc, List, [], ◌∷◌}
use Rattle.tac_program.specs.declared.program.Label.{Label}

-- So many labels for one place, numbered on from n.
abbrev pub labels_at : ℕ → ℕ → ℕ → List Label
labels_at n place zero = []
labels_at n place (suc count) = record { name = n; place = place } ∷ labels_at (suc n) place count
