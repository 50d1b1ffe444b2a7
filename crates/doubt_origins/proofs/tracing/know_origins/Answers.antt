use Rattle.std.proofs.Common.{◌<◌, ℕ, List, get_or, length, take, ap, ◌∙◌, refl, subst, sym, arith}
use Rattle.std.proofs.lemmas.List.{take_more}
use Rattle.std.proofs.lemmas.List.Sums.{fold_more}
use Rattle.flow_graph.specs.code.Searching.{Search, search_of, with_known}
use Rattle.doubt_origins.specs.code.Tracing.{AddsOrigin, known_in}
use Rattle.doubt_origins.proofs.traces.Tracing.{adds_more, adds_none}
use Rattle.doubt_origins.proofs.tracing.know_origins.Goals as goal

pub know_origin-requires : goal.know_origin-requires
know_origin-requires c = omega (arith, c.requires c.loop-point.point-index 0 (omega arith), c.loop-point.invariant.adds.count)

pub loop-point-init : goal.loop-point-init
loop-point-init c = record { known = refl; adds = adds_none c.args.origin c.args.origins.now.items }

pub loop-point-preserved : goal.loop-point-preserved
loop-point-preserved c =
    let i : ℕ = c.loop-point.point-index in
    let points : List ℕ = c.args.points.now in
    let begun : Search = search_of (known_in c.args.origins.now.items) c.args.work.now.items in
    let inside : i < length points = omega arith in
    record {
      known = c.in_ok-know_origin.ensures.known
          ∙ ap (λ search. with_known search (get_or points i 0)) c.loop-point.invariant.known
          ∙ sym (fold_more with_known begun points i 0 inside);
      adds = subst (λ (xs : List ℕ). AddsOrigin xs c.args.origin c.args.origins.now.items c.know_origin.new.origins.items)
          (sym (take_more points i 0 inside))
          (adds_more (take i points) (get_or points i 0) c.args.origin c.args.origins.now.items c.loop-point.origins.items
          c.know_origin.new.origins.items c.loop-point.invariant.adds c.in_ok-know_origin.ensures.adds);
    }
