use Rattle.std.proofs.Common.{◌∙◌, subst, ℕ}
use Rattle.graph_components.specs.code.Found.{AddsComponent}
use Rattle.graph_components.proofs.walks.Numbered.{one_more}
use Rattle.graph_components.proofs.components.number_if_new.Goals as goal

pub returns : goal.returns
returns c =
    let count = c.requires.found.numbers.count in
    record {
      numbers = one_more c.args.ways.now.arcs.now c.args.nodes c.args.start c.args.found.now.numbers.items c.number_component.new.found.numbers.items
          c.requires.start c.requires.found.numbers
          (subst (λ (n : ℕ). AddsComponent c.args.ways.now.arcs.now n c.args.start c.args.found.now.numbers.items
          c.number_component.new.found.numbers.items) count c.in_ok-number_component.ensures.adds);
      ahead_count = c.in_ok-number_component.ensures.ahead_count ∙ count;
      ahead = c.in_ok-number_component.ensures.ahead;
      behind_count = c.in_ok-number_component.ensures.behind_count ∙ count;
      behind = c.in_ok-number_component.ensures.behind;
    }
