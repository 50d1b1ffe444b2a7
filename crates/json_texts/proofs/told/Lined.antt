-- Lines behind the first one
use Rattle.std.proofs.Common.{◌≡◌, ◌∙◌, ℕ, List, ◌++◌, sym, ap, append_assoc}

pub regrouped : (a b c d : List ℕ) → a ++ (b ++ c ++ d) ≡ a ++ b ++ c ++ d
regrouped a b c d = sym (append_assoc a (b ++ c) d) ∙ ap (λ (t : List ℕ). t ++ d) (sym (append_assoc a b c))
