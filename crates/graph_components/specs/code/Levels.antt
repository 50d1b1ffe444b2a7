-- Numbers that do not rise along arcs: nodes that lead to each other have the same.
use Rattle.std.specs.Prelude.{◌≡◌, ℕ, ◌≤◌, Bool, List, All, length, nat_eq, slice_index}
use Rattle.graph_components.specs.declared.arc.Arc.{Arc}

pub record AreLevels (arcs : List Arc) (nodes : ℕ) (levels : List ℕ) : Type 0 where
  pub count : length levels ≡ nodes
  pub falls : All (λ arc. slice_index levels arc.to ≤ slice_index levels arc.from) arcs

-- whether an arc joins nodes of one number
abbrev pub is_level : List ℕ → Arc → Bool
is_level levels arc = nat_eq (slice_index levels arc.to) (slice_index levels arc.from)
