use Rattle.std.proofs.Common.{rules, ◌≡◌, ℕ, subst}
use Rattle.graph_components.specs.code.Found.{AreNumbered}
use Rattle.graph_components.proofs.walks.Numbered.{all_numbered}
use Rattle.graph_components.proofs.components.number_all.Goals as goal

pub returns : goal.returns
returns c =
    let all : c.loop-start.start ≡ c.args.nodes = search rules in
    all_numbered c.args.ways.now.arcs.now c.args.nodes c.loop-start.found.numbers.items
    (subst (λ (n : ℕ). AreNumbered c.args.ways.now.arcs.now c.args.nodes n c.loop-start.found.numbers.items) all c.loop-start.invariant.numbers)
