use Rattle.std.proofs.Common.{rules, ◌≡◌, ◌<◌, ◌≤◌, ◌∙◌, ℕ, List, All, Some, None, fold, get_or, is_some, length, unwrap_or, vec_len, ap, subst, sym, arith}
use Rattle.std.proofs.lemmas.List.{get_or_default, length-map}
use Rattle.flow_graph.specs.code.Searching.{search_of, sources_of, with_known}
use Rattle.flow_graph.proofs.edges.LeadingLemmas.{reads_sources, sources_are_points}
use Rattle.doubt_origins.specs.Origins.{origins_in}
use Rattle.doubt_origins.specs.code.Tracing.{AddsOrigin, known_in}
use Rattle.doubt_origins.proofs.traces.Tracing.{is_origin, is_point, is_told, told_is, trace_begins, trace_more, trace_tells}
use Rattle.doubt_origins.proofs.tracing.traced_origins.Goals as goal

pub loop-next-init : goal.loop-next-init
loop-next-init c =
    trace_begins c.args.graph.now c.args.endless.now c.in_ok-origins.origins.items c.in_ok-work.work.items c.requires
    c.in_ok-origins.ensures c.in_ok-work.ensures

pub index-requires : goal.index-requires
index-requires c =
    let len : vec_len c.loop-next.work ≡ length c.loop-next.work.items = search rules in
    let low : c.loop-next.next < length c.loop-next.work.items = omega (arith, c.loop-next-test.true, c.len.ensures, len) in
    let at_is : c.index-point.result.now ≡ get_or c.loop-next.work.items c.loop-next.next 0 =
    c.index-point.ensures ∙ get_or_default c.loop-next.work.items c.loop-next.next _ 0 low in
    let as_many : vec_len c.loop-next.origins ≡ length c.loop-next.origins.items = search rules in
    omega (
      arith,
      as_many,
      is_origin c.args.graph.now c.points.ensures.sound c.args.endless.now c.loop-next.next c.index-point.result.now c.loop-next.origins.items
          c.loop-next.work.items c.loop-next.invariant low at_is,
    )

pub index-requires-in-loop-next : goal.index-requires-in-loop-next
index-requires-in-loop-next c =
    let len : vec_len c.loop-next.work ≡ length c.loop-next.work.items = search rules in
    let low : c.loop-next.next < length c.loop-next.work.items = omega (arith, c.loop-next-test.true, c.len.ensures, len) in
    let at_is : c.index-point.result.now ≡ get_or c.loop-next.work.items c.loop-next.next 0 =
    c.index-point.ensures ∙ get_or_default c.loop-next.work.items c.loop-next.next _ 0 low in
    let as_many : vec_len c.in_ok-lists.lists ≡ length c.in_ok-lists.lists.items = search rules in
    omega (
      arith,
      as_many,
      c.in_ok-lists.ensures.count,
      length-map c.in_ok-lists.lists.items (λ list. list.items),
      is_point c.args.graph.now c.points.ensures.sound c.args.endless.now c.loop-next.next c.index-point.result.now c.loop-next.origins.items
          c.loop-next.work.items c.loop-next.invariant low at_is,
    )

pub know_origins-requires : goal.know_origins-requires
know_origins-requires c =
    let len : vec_len c.loop-next.work ≡ length c.loop-next.work.items = search rules in
    let low : c.loop-next.next < length c.loop-next.work.items = omega (arith, c.loop-next-test.true, c.len.ensures, len) in
    let at_is : c.index-point.result.now ≡ get_or c.loop-next.work.items c.loop-next.next 0 =
    c.index-point.ensures ∙ get_or_default c.loop-next.work.items c.loop-next.next _ 0 low in
    let sources : c.as_slice.result.now ≡ sources_of c.args.graph.now c.index-point.result.now =
    reads_sources c.args.graph.now c.in_ok-lists.lists.items c.index-point.result.now c.index-in-loop-next.result.now c.as_slice.result.now
    c.in_ok-lists.ensures (is_point c.args.graph.now c.points.ensures.sound c.args.endless.now c.loop-next.next c.index-point.result.now c.loop-next.origins.items
    c.loop-next.work.items c.loop-next.invariant low at_is) c.index-in-loop-next.ensures c.as_slice.ensures in
    subst (λ xs. All (λ point. point < length c.loop-next.origins.items) xs) (sym sources)
    (λ k d below. omega (
      arith,
      sources_are_points c.args.graph.now c.points.ensures.sound c.index-point.result.now k d below,
      c.loop-next.invariant.searches.count,
      length-map c.loop-next.origins.items is_some,
    ))

pub loop-next-smaller : goal.loop-next-smaller
loop-next-smaller c =
    let len : vec_len c.loop-next.work ≡ length c.loop-next.work.items = search rules in
    let low : c.loop-next.next < length c.loop-next.work.items = omega (arith, c.loop-next-test.true, c.len.ensures, len) in
    let at_is : c.index-point.result.now ≡ get_or c.loop-next.work.items c.loop-next.next 0 =
    c.index-point.ensures ∙ get_or_default c.loop-next.work.items c.loop-next.next _ 0 low in
    let sources : c.as_slice.result.now ≡ sources_of c.args.graph.now c.index-point.result.now =
    reads_sources c.args.graph.now c.in_ok-lists.lists.items c.index-point.result.now c.index-in-loop-next.result.now c.as_slice.result.now
    c.in_ok-lists.ensures (is_point c.args.graph.now c.points.ensures.sound c.args.endless.now c.loop-next.next c.index-point.result.now c.loop-next.origins.items
    c.loop-next.work.items c.loop-next.invariant low at_is) c.index-in-loop-next.ensures c.as_slice.ensures in
    let there : c.index-point.result.now < length c.loop-next.origins.items = is_origin c.args.graph.now c.points.ensures.sound c.args.endless.now c.loop-next.next c.index-point.result.now c.loop-next.origins.items
    c.loop-next.work.items c.loop-next.invariant low at_is in
    let read : c.index.result.now ≡ origins_in c.loop-next.origins.items c.index-point.result.now =
    c.index.ensures ∙ get_or_default c.loop-next.origins.items c.index-point.result.now _ None there in
    let told : origins_in c.loop-next.origins.items c.index-point.result.now ≡ Some c.unwrap_or-origin.result =
    told_is (origins_in c.loop-next.origins.items c.index-point.result.now) c.index-point.result.now
    (is_told c.args.graph.now c.points.ensures.sound c.args.endless.now c.loop-next.next c.index-point.result.now c.loop-next.origins.items
    c.loop-next.work.items c.loop-next.invariant low at_is)
    ∙ ap (λ o. Some o) (sym (c.unwrap_or-origin.ensures ∙ ap (λ o. unwrap_or o c.index-point.result.now) read)) in
    let steps = trace_more c.args.graph.now c.points.ensures.sound c.args.endless.now c.loop-next.next c.index-point.result.now c.loop-next.origins.items
    c.loop-next.work.items c.loop-next.invariant low at_is c.unwrap_or-origin.result told c.know_origins.new.origins.items
    c.know_origins.new.work.items
    (c.in_ok-know_origins.ensures.known
    ∙ ap (λ xs. fold with_known (search_of (known_in c.loop-next.origins.items) c.loop-next.work.items) xs) sources)
    (subst (λ (xs : List ℕ). AddsOrigin xs c.unwrap_or-origin.result c.loop-next.origins.items c.know_origins.new.origins.items) sources
    c.in_ok-know_origins.ensures.adds) in
    steps.smaller

pub loop-next-preserved : goal.loop-next-preserved
loop-next-preserved c =
    let len : vec_len c.loop-next.work ≡ length c.loop-next.work.items = search rules in
    let low : c.loop-next.next < length c.loop-next.work.items = omega (arith, c.loop-next-test.true, c.len.ensures, len) in
    let at_is : c.index-point.result.now ≡ get_or c.loop-next.work.items c.loop-next.next 0 =
    c.index-point.ensures ∙ get_or_default c.loop-next.work.items c.loop-next.next _ 0 low in
    let sources : c.as_slice.result.now ≡ sources_of c.args.graph.now c.index-point.result.now =
    reads_sources c.args.graph.now c.in_ok-lists.lists.items c.index-point.result.now c.index-in-loop-next.result.now c.as_slice.result.now
    c.in_ok-lists.ensures (is_point c.args.graph.now c.points.ensures.sound c.args.endless.now c.loop-next.next c.index-point.result.now c.loop-next.origins.items
    c.loop-next.work.items c.loop-next.invariant low at_is) c.index-in-loop-next.ensures c.as_slice.ensures in
    let there : c.index-point.result.now < length c.loop-next.origins.items = is_origin c.args.graph.now c.points.ensures.sound c.args.endless.now c.loop-next.next c.index-point.result.now c.loop-next.origins.items
    c.loop-next.work.items c.loop-next.invariant low at_is in
    let read : c.index.result.now ≡ origins_in c.loop-next.origins.items c.index-point.result.now =
    c.index.ensures ∙ get_or_default c.loop-next.origins.items c.index-point.result.now _ None there in
    let told : origins_in c.loop-next.origins.items c.index-point.result.now ≡ Some c.unwrap_or-origin.result =
    told_is (origins_in c.loop-next.origins.items c.index-point.result.now) c.index-point.result.now
    (is_told c.args.graph.now c.points.ensures.sound c.args.endless.now c.loop-next.next c.index-point.result.now c.loop-next.origins.items
    c.loop-next.work.items c.loop-next.invariant low at_is)
    ∙ ap (λ o. Some o) (sym (c.unwrap_or-origin.ensures ∙ ap (λ o. unwrap_or o c.index-point.result.now) read)) in
    let steps = trace_more c.args.graph.now c.points.ensures.sound c.args.endless.now c.loop-next.next c.index-point.result.now c.loop-next.origins.items
    c.loop-next.work.items c.loop-next.invariant low at_is c.unwrap_or-origin.result told c.know_origins.new.origins.items
    c.know_origins.new.work.items
    (c.in_ok-know_origins.ensures.known
    ∙ ap (λ xs. fold with_known (search_of (known_in c.loop-next.origins.items) c.loop-next.work.items) xs) sources)
    (subst (λ (xs : List ℕ). AddsOrigin xs c.unwrap_or-origin.result c.loop-next.origins.items c.know_origins.new.origins.items) sources
    c.in_ok-know_origins.ensures.adds) in
    steps.traces

pub returns : goal.returns
returns c =
    let len : vec_len c.loop-next.work ≡ length c.loop-next.work.items = search rules in
    let all : length c.loop-next.work.items ≤ c.loop-next.next = omega (arith, c.loop-next-test.false, c.len.ensures, len) in
    trace_tells c.args.graph.now c.args.endless.now c.loop-next.next c.loop-next.origins.items c.loop-next.work.items c.points.ensures.sound
    c.requires c.loop-next.invariant all
