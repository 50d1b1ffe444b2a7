use Rattle.std.proofs.Common.{◌≡◌, ◌<◌, ◌↔◌, ℕ, ◌+◌, suc, List, All, Contains, get_or, length, map, if◌then◌else◌, sym, ap, ◌∙◌, subst, arith}
use Rattle.std.proofs.lemmas.List.Elements.{All-map}
use Rattle.graph_components.specs.Components.{Leads}
use Rattle.graph_components.specs.code.Marks.{in_both}
use Rattle.graph_components.specs.code.Targets.{AreWithin, reversed_arc}
use Rattle.graph_components.specs.declared.arc.Arc.{Arc}
use Rattle.graph_components.proofs.searches.Both.{all_within, both_tell}
use Rattle.graph_components.proofs.components.number_component.Goals as goal

pub reached_from-requires-2-clause-within : goal.reached_from-requires-2-clause-within
reached_from-requires-2-clause-within c =
    let nodes : ℕ = length c.args.found.now.behind.items in
    subst (λ (arcs : List Arc). AreWithin nodes arcs) (sym c.requires.ways.reversed)
    (All-map (λ arc. (arc.from < nodes) × (arc.to < nodes)) reversed_arc c.args.ways.now.arcs.now
    (λ k d below.
    let both = c.requires.ways.within k d below in
    (omega (arith, both.1, c.requires.behind_count), omega (arith, both.0, c.requires.behind_count))))

pub number_marked-requires-clause-inside : goal.number_marked-requires-clause-inside
number_marked-requires-clause-inside c =
    subst (λ (xs : List ℕ). All (λ node. node < length c.args.found.now.numbers.items) xs) (sym c.as_slice.ensures.value)
    (all_within c.args.ways.now.arcs.now (length c.args.found.now.numbers.items) c.args.start c.in_ok-ahead.ahead.items c.requires.ways.within
    c.requires.start c.in_ok-ahead.ensures.reached)

pub returns-clause-adds : goal.returns-clause-adds
returns-clause-adds c =
    let arcs = c.args.ways.now.arcs.now in
    let ahead = c.as_slice.result.now in
    let behind = c.as_slice-2.result.now in
    let stamp : ℕ = c.args.start + 1 in
    record {
      count = c.number_marked.ensures.count;
      has = in_both ahead behind stamp;
      tells = λ node low.
          both_tell arcs ahead behind stamp c.args.start node
          (subst (λ (xs : List ℕ). Contains xs node ↔ Leads arcs c.args.start node) (sym c.as_slice.ensures.value)
          (c.in_ok-ahead.ensures.reached node))
          (subst (λ (xs : List ℕ). (get_or xs node 0 ≡ stamp) ↔ Leads (map reversed_arc arcs) c.args.start node) (sym c.as_slice-2.ensures.value)
          (subst (λ (others : List Arc). (get_or c.reached_from-2.new.marks.items node 0 ≡ stamp) ↔ Leads others c.args.start node)
          c.requires.ways.reversed (c.in_ok-reached_from.ensures.marked node)));
      is = λ node low.
          c.number_marked.ensures.each node low
          ∙ ap (λ n. if in_both ahead behind stamp node then n else get_or c.args.found.now.numbers.items node 0)
          (let next : c.args.start + 1 ≡ suc c.args.start = omega arith in next);
    }
