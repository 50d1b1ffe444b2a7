-- Lines with those of a source
use Rattle.std.proofs.Common.{◌≡◌, ℕ, List, ◌++◌, subst}
use Rattle.source_lines.specs.SourceLines.{IsSourced, Lined, all_of_lined, source_lines}

pub sourced_is : (source first : List ℕ) (IsLines : List ℕ → Type 0) (lined : Lined) (out : List ℕ) → lined.first ≡ first → IsLines (all_of_lined lined)
    → out ≡ lined.first ++ source_lines source ++ lined.others → IsSourced source first IsLines out
sourced_is source first IsLines lined out same are is = record {
  others = lined.others;
  are_lines = subst (λ (f : List ℕ). IsLines (f ++ lined.others)) same are;
  is_text = subst (λ (f : List ℕ). out ≡ f ++ source_lines source ++ lined.others) same is;
}
