use Rattle.std.proofs.Common.{rules, ◌≡◌, ℕ, List, All, subst, sym}
use Rattle.flow_rounds.proofs.lists.Frames.{ordered_within}
use Rattle.flow_rounds.specs.code.Frames.{IsOrdered, IsWithin}
use Rattle.flow_rounds.proofs.frame.Frame.order.Goals as goal

pub returns-clause-within : goal.returns-clause-within
returns-clause-within c =
    let ordered : IsOrdered c.args.self.now = search rules in
    let same : c.as_slice.result.now ≡ c.args.self.now.order = search rules in
    subst (λ (xs : List ℕ). All (IsWithin c.args.self.now.points) xs) (sym same) (ordered_within c.args.self.now ordered)
