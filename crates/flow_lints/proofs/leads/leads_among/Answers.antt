use Rattle.std.proofs.Common.{rules, ◌≡◌, ◌<◌, length, vec_len, All, ap₂, ◌∙◌, sym, subst, arith}
use Rattle.std.proofs.lemmas.List.{length-map, nil_from_length}
use Rattle.flow_graph.specs.code.Searching.{Search, search_of}
use Rattle.flow_graph.proofs.edges.LeadingLemmas.{reads_sources, sources_are_points}
use Rattle.flow_lints.proofs.Leading.{Searches, search_begins, search_tells, looked_at_inside, step_taken}
use Rattle.flow_lints.proofs.leads.leads_among.Goals as goal

pub loop-point-init : goal.loop-point-init
loop-point-init c =
    subst (λ (search : Search). Searches c.args.graph.now c.args.among.now c.args.marked.now search)
    (sym (ap₂ search_of c.in_ok-known.ensures.items c.in_ok-work.ensures))
    (search_begins c.args.graph.now c.args.among.now c.args.marked.now c.requires.marked c.requires.within)

pub index-requires : goal.index-requires
index-requires c =
    let inside = looked_at_inside c.args.graph.now c.args.among.now c.args.marked.now c.loop-point.known.items c.loop-point.work.items c.pop.new.self.items
    c.in-Some.point c.loop-point.invariant c.in-Some.ensures.items in
    let len : vec_len c.in_ok-lists.lists ≡ length c.in_ok-lists.lists.items = search rules in
    omega (arith, inside, len, c.in_ok-lists.ensures.count, length-map c.in_ok-lists.lists.items (λ list. list.items))

pub know_all-requires-clause-known : goal.know_all-requires-clause-known
know_all-requires-clause-known c =
    let inside = looked_at_inside c.args.graph.now c.args.among.now c.args.marked.now c.loop-point.known.items c.loop-point.work.items
    c.pop.new.self.items c.in-Some.point c.loop-point.invariant c.in-Some.ensures.items in
    let sources = reads_sources c.args.graph.now c.in_ok-lists.lists.items c.in-Some.point c.index.result.now c.as_slice.result.now
    c.in_ok-lists.ensures inside c.index.ensures c.as_slice.ensures in
    subst (λ xs. All (λ point. point < length c.loop-point.known.items) xs) (sym sources)
    (λ k d below. omega (arith, sources_are_points c.args.graph.now c.points.ensures.sound c.in-Some.point k d below, c.loop-point.invariant.count))

pub know_all-requires-clause-among : goal.know_all-requires-clause-among
know_all-requires-clause-among c =
    let inside = looked_at_inside c.args.graph.now c.args.among.now c.args.marked.now c.loop-point.known.items c.loop-point.work.items
    c.pop.new.self.items c.in-Some.point c.loop-point.invariant c.in-Some.ensures.items in
    let sources = reads_sources c.args.graph.now c.in_ok-lists.lists.items c.in-Some.point c.index.result.now c.as_slice.result.now
    c.in_ok-lists.ensures inside c.index.ensures c.as_slice.ensures in
    subst (λ xs. All (λ point. point < length c.args.among.now) xs) (sym sources)
    (λ k d below. omega (arith, sources_are_points c.args.graph.now c.points.ensures.sound c.in-Some.point k d below, c.requires.among))

pub loop-point-smaller : goal.loop-point-smaller
loop-point-smaller c =
    let inside = looked_at_inside c.args.graph.now c.args.among.now c.args.marked.now c.loop-point.known.items c.loop-point.work.items c.pop.new.self.items
    c.in-Some.point c.loop-point.invariant c.in-Some.ensures.items in
    let sources = reads_sources c.args.graph.now c.in_ok-lists.lists.items c.in-Some.point c.index.result.now c.as_slice.result.now
    c.in_ok-lists.ensures inside c.index.ensures c.as_slice.ensures in
    (step_taken c.args.graph.now c.args.among.now c.args.marked.now c.loop-point.known.items c.loop-point.work.items c.pop.new.self.items c.in-Some.point
    c.as_slice.result.now
    (search_of c.know_all.new.known.items c.know_all.new.work.items)
    c.points.ensures.sound c.loop-point.invariant c.in-Some.ensures.items sources c.in_ok-know_all.ensures).smaller

pub loop-point-preserved : goal.loop-point-preserved
loop-point-preserved c =
    let inside = looked_at_inside c.args.graph.now c.args.among.now c.args.marked.now c.loop-point.known.items c.loop-point.work.items c.pop.new.self.items
    c.in-Some.point c.loop-point.invariant c.in-Some.ensures.items in
    let sources = reads_sources c.args.graph.now c.in_ok-lists.lists.items c.in-Some.point c.index.result.now c.as_slice.result.now
    c.in_ok-lists.ensures inside c.index.ensures c.as_slice.ensures in
    (step_taken c.args.graph.now c.args.among.now c.args.marked.now c.loop-point.known.items c.loop-point.work.items c.pop.new.self.items c.in-Some.point
    c.as_slice.result.now
    (search_of c.know_all.new.known.items c.know_all.new.work.items)
    c.points.ensures.sound c.loop-point.invariant c.in-Some.ensures.items sources c.in_ok-know_all.ensures).searches

pub returns : goal.returns
returns c =
    let len : vec_len c.loop-point.work ≡ length c.loop-point.work.items = search rules in
    search_tells c.args.graph.now c.args.among.now c.args.marked.now c.loop-point.known.items c.loop-point.work.items c.loop-point.invariant
    (nil_from_length c.loop-point.work.items (sym len ∙ c.in_default.ensures.cases.0))
