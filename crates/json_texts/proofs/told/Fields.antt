-- The texts of changes between sets that are the same
use Rattle.std.proofs.Common.{◌≡◌, ℕ, Bool}
use Rattle.flow_graph.specs.declared.analysis.Analysis.{Analysis}
use Rattle.json_texts.specs.Changes.{change_fields}
use Rattle.tac_program.specs.Programs.{Program}

pub same_fields : (program : Program) (here there : Analysis) (old before new after : ℕ → Bool) → here ≡ there → old ≡ before → new ≡ after
    → change_fields program here old new ≡ change_fields program there before after
same_fields program here there old before new after analysis first second = λ i. change_fields program (analysis i) (first i) (second i)
