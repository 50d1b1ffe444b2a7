use Rattle.std.proofs.Common.{◌≡◌, Bool, true, false, refl, sym, ◌∙◌}
use Rattle.flow_regions.proofs.outside.is_marked.Goals as goal

true_if : (b : Bool) → (b ≡ false → true ≡ false) → b ≡ true
true_if true none = refl
true_if false none = sym (none refl)

pub returns : goal.returns
returns c site x call outside inside = true_if c.is_called.result (λ none. sym (c.is_called.ensures none site x call) ∙ outside)
