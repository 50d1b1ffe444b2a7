-- Where each slice ends.
use Rattle.std.proofs.Common.{◌≡◌, ◌∙◌, ◌-◌, ◌+◌, length, slice_get, refl, sym, ap, arith}
use Rattle.flow_queries.specs.code.Cuts.{AreAlike}
use Rattle.flow_queries.specs.declared.query.Query.{Query}
use Rattle.flow_queries.proofs.queries.Ends.{all_ends, no_ends, no_more_end, none_end, one_more_end}
use Rattle.flow_queries.proofs.queried_job.ends.Goals as goal
use Rattle.flow_queries.proofs.queried_job.ends.Goals.{then-ends_between+in_ok-push, else-ends_between}

pub returns-then-count-eq0 : goal.returns-then-count-eq0
returns-then-count-eq0 c =
    no_ends c.args.queried.now.order c.new-ends.result.items (sym c.count-count.ensures.count ∙ c.if-count-eq0.true) c.new-ends.ensures.items

pub loop-j-init : goal.loop-j-init
loop-j-init c = record {
  first = omega arith;
  before = c.query-before.ensures.query;
  ends = rw (c.new-ends.ensures.items) (none_end c.args.queried.now.order (length c.args.queried.now.order));
}

pub loop-j-preserved : goal.loop-j-preserved
loop-j-preserved c =
    let order = c.args.queried.now.order in
    let before = c.loop-j.invariant in
    let next : c.loop-j.j + 1 - 1 ≡ c.loop-j.j = omega arith in
    record {
      first = omega arith;
      before = ap (slice_get order) next ∙ c.query-here.ensures.query;
      ends = elim c.if-ends_between.branch [
        | then-ends_between+in_ok-push w ↦
            rw (w.ends-is, w.in_ok-push.ensures.items)
            (one_more_end order (length order) c.loop-j.j c.loop-j.ends.items before.ends before.first
            (omega (arith, c.loop-j-test.true, c.count-count.ensures.count)))
        | else-ends_between w ↦
            let alike : AreAlike order (c.loop-j.j - 1) c.loop-j.j = λ one other is there.
            let first : one ≡ c.loop-j.before = cc (sym is ∙ before.before) in
            let second : other ≡ c.query-here.result = cc (sym there ∙ c.query-here.ensures.query) in
            ap (λ (query : Query). query.analysis) first ∙ w.if-ends_between.ensures refl ∙ ap (λ (query : Query). query.analysis) (sym second) in
            rw (w.ends-is) (no_more_end order (length order) c.loop-j.j c.loop-j.ends.items before.ends (c.loop-j.j - 1) (omega (arith, before.first)) alike)
      ];
    }

pub returns : goal.returns
returns c =
    let order = c.args.queried.now.order in
    all_ends order (length order) c.loop-j.j c.loop-j.ends.items c.loop-j.invariant.ends
    (omega (arith, c.loop-j-test.false, c.count-count.ensures.count))
