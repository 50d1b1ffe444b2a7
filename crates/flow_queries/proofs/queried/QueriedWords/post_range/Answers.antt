use Rattle.std.proofs.Common.{◌∙◌, slice_index, refl, sym, subst, arith}
use Rattle.flow_queries.specs.code.Boards.{IsArranged, Queried}
use Rattle.flow_queries.specs.code.Packing.{HasColumns}
use Rattle.flow_queries.specs.code.Splits.{AreSplit}
use Rattle.gen_kill.specs.Selections.{Selection}
use Rattle.flow_team.proofs.posts.Posts.{of_still, posts_more, posts_none}
use Rattle.flow_queries.proofs.queries.Done.{done_more}
use Rattle.flow_queries.proofs.queries.Splitting.{left_goes}
use Rattle.flow_queries.proofs.queried.QueriedWords.post_range.Goals as goal

pub queries-init : goal.queries-init
queries-init c =
    record {
      of = c.requires.of;
      more = posts_none c.args.pass.now;
      solves = refl;
      done = λ bit want at. absurd (omega (arith, at.0, at.1));
    }

pub post_query-requires-clause-asked : goal.post_query-requires-clause-asked
post_query-requires-clause-asked c = λ rest there.
    let queried = c.args.self.now in
    let found = c.self.inside.split.found.items in
    let arranged = (subst IsArranged c.self.view_is c.self.invariant.0).arranged in
    let split = subst (λ (a : Queried). AreSplit a.program a.queries a.left found) c.self.view_is c.self.invariant.2 in
    let goes = left_goes queried found arranged split c.args.from c.queries.j c.query-first.result rest
    (omega (arith, c.queries-test.true, c.requires.until))
    (c.requires.one c.queries.j (omega (arith, c.queries.auto.j)) (omega (arith, c.queries-test.true))) c.query-first.ensures.query there in
    subst (λ (selection : Selection). HasColumns selection rest) (sym (c.queries.invariant.solves ∙ c.in_ok-words.ensures))
    (c.solver-solver.ensures.asked.each (slice_index queried.places c.queries.j) rest there goes)

pub queries-preserved : goal.queries-preserved
queries-preserved c =
    let before = c.queries.invariant in
    let posts = c.post_query.ensures in
    record {
      of = of_still c.args.board.now c.queries.pass c.post_query.new.pass posts.more before.of;
      more = posts_more c.args.pass.now c.queries.pass c.post_query.new.pass before.more posts.more;
      solves = posts.same ∙ before.solves;
      done = done_more c.args.self.now c.args.from c.queries.j c.queries.pass c.post_query.new.pass posts.more before.done posts.done;
    }

pub returns-clause-done : goal.returns-clause-done
returns-clause-done c = λ bit want at.
    c.queries.invariant.done bit want (at.0, omega (arith, c.queries-test.false, at.1))
