use Rattle.std.proofs.Common.{rules, ◌≡◌, ◌<◌, ◌≤◌, ◌∙◌, false, length, vec_len, get_or, replicate, ap, sym, subst, arith}
use Rattle.std.proofs.lemmas.List.{get_or_default}
use Rattle.flow_graph.specs.Points.{point_count}
use Rattle.flow_graph.specs.code.Searching.{search_of, with_known}
use Rattle.flow_links.specs.Shapes.{LinkedProgram}
use Rattle.flow_reasons.proofs.searches.Doubting.{finishes_is, is_point, origin_is, seek_begins, seek_more, seek_tells}
use Rattle.flow_reasons.proofs.doubts.doubt_origin.Goals as goal

pub has_path-requires : goal.has_path-requires
has_path-requires c =
    let len : vec_len c.loop-next.work ≡ length c.loop-next.work.items = search rules in
    let low : c.loop-next.next < length c.loop-next.work.items = omega (arith, c.loop-next-test.true, c.len.ensures, len) in
    let at_is : c.index-at.result.now ≡ get_or c.loop-next.work.items c.loop-next.next 0 =
    c.index-at.ensures ∙ get_or_default c.loop-next.work.items c.loop-next.next _ 0 low in
    subst (λ (l : LinkedProgram). c.index-at.result.now < point_count l.program) (sym c.requires.ways)
    (is_point c.args.graph.now c.points.ensures.sound c.args.point c.loop-next.next c.index-at.result.now c.loop-next.known.items
    c.loop-next.work.items c.loop-next.invariant low at_is)

pub returns-then-not-has_path : goal.returns-then-not-has_path
returns-then-not-has_path c =
    let len : vec_len c.loop-next.work ≡ length c.loop-next.work.items = search rules in
    let low : c.loop-next.next < length c.loop-next.work.items = omega (arith, c.loop-next-test.true, c.len.ensures, len) in
    let at_is : c.index-at.result.now ≡ get_or c.loop-next.work.items c.loop-next.next 0 =
    c.index-at.ensures ∙ get_or_default c.loop-next.work.items c.loop-next.next _ 0 low in
    let tells = finishes_is c.args.graph.now c.args.ways.now.linked c.index-at.result.now c.requires.ways in
    let missed = c.if-not-has_path.true in
    origin_is c.args.graph.now c.points.ensures.sound c.args.point c.loop-next.next c.index-at.result.now c.loop-next.known.items
    c.loop-next.work.items c.loop-next.invariant low at_is
    (λ finish. let has = c.has_path.ensures.1 (tells.1 finish) in absurd (cc (missed, has)))

pub know_next-requires : goal.know_next-requires
know_next-requires c =
    let len : vec_len c.loop-next.work ≡ length c.loop-next.work.items = search rules in
    let low : c.loop-next.next < length c.loop-next.work.items = omega (arith, c.loop-next-test.true, c.len.ensures, len) in
    let at_is : c.index-at.result.now ≡ get_or c.loop-next.work.items c.loop-next.next 0 =
    c.index-at.ensures ∙ get_or_default c.loop-next.work.items c.loop-next.next _ 0 low in
    record {
      point = is_point c.args.graph.now c.points.ensures.sound c.args.point c.loop-next.next c.index-at.result.now c.loop-next.known.items
          c.loop-next.work.items c.loop-next.invariant low at_is;
      known = c.loop-next.invariant.count;
    }

pub loop-next-init : goal.loop-next-init
loop-next-init c =
    seek_begins c.args.graph.now c.args.point c.in_ok-known.known.items (search_of c.know_point.new.known.items c.know_point.new.work.items)
    c.requires.point
    (c.in_ok-known.ensures.items_if_clones_equal (λ y same. same) ∙ ap (λ n. replicate n false) c.points.ensures.count)
    (c.in_ok-know_point.ensures ∙ ap (λ w. with_known (search_of c.in_ok-known.known.items w) c.args.point) c.new-work.ensures.items)

pub loop-next-preserved : goal.loop-next-preserved
loop-next-preserved c =
    let len : vec_len c.loop-next.work ≡ length c.loop-next.work.items = search rules in
    let low : c.loop-next.next < length c.loop-next.work.items = omega (arith, c.loop-next-test.true, c.len.ensures, len) in
    let at_is : c.index-at.result.now ≡ get_or c.loop-next.work.items c.loop-next.next 0 =
    c.index-at.ensures ∙ get_or_default c.loop-next.work.items c.loop-next.next _ 0 low in
    let tells = finishes_is c.args.graph.now c.args.ways.now.linked c.index-at.result.now c.requires.ways in
    let finish = tells.0 (c.has_path.ensures.0 c.if-not-has_path.false) in
    seek_more c.args.graph.now c.points.ensures.sound c.args.point c.loop-next.next c.index-at.result.now c.loop-next.known.items
    c.loop-next.work.items c.loop-next.invariant low at_is
    (search_of c.know_next.new.known.items c.know_next.new.work.items) finish c.in_ok-know_next.ensures

pub returns : goal.returns
returns c =
    let len : vec_len c.loop-next.work ≡ length c.loop-next.work.items = search rules in
    let all : length c.loop-next.work.items ≤ c.loop-next.next = omega (arith, c.loop-next-test.false, c.len.ensures, len) in
    seek_tells c.args.graph.now c.args.point c.loop-next.next (search_of c.loop-next.known.items c.loop-next.work.items) c.loop-next.invariant all
