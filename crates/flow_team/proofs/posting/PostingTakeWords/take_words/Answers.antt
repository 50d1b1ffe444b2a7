use Rattle.std.proofs.Common.{◌+◌, ◌≤◌, arith, subst, sym}
use Rattle.slice_board.specs.Boards.{BoardState}
use Rattle.flow_team.specs.code.Posting.{HasPosted}
use Rattle.flow_team.proofs.posts.Posts.{groups_more, of_still, posts_more}
use Rattle.flow_team.proofs.facts.Words.{tell_point, words_tell_sets}
use Rattle.flow_team.proofs.posting.PostingTakeWords.take_words.Goals as goal

pub post_words-requires : goal.post_words-requires
post_words-requires g c =
    let ready = c.requires.ready in
    let most : c.args.self.now.first + c.args.self.now.count ≤ c.args.slice.now.points =
    omega (arith, ready.there, c.requires.slice.points) in
    record {
      of = ready.of;
      words = λ point there.
          tell_point (g.W.Wanted.wants c.args.self.now.board.now.wanted) c.args._problem.now c.args.slice.now c.args.self.now.first
          c.args.self.now.count point ready.wants most there
          (words_tell_sets c.args._problem.now c.args.slice.now c.requires.slice c.requires.paths);
      points = ready.points;
      there = most;
      within = omega (arith, c.requires.last, ready.within);
    }

pub returns-clause-ready : goal.returns-clause-ready
returns-clause-ready g c =
    let ready = c.requires.ready in
    record {
      wants = ready.wants;
      points = ready.points;
      there = ready.there;
      within = ready.within;
      of = of_still c.args.self.now.board.now c.args.self.now.pass.now c.post_words.new.pass c.post_words.ensures.more ready.of;
    }

pub returns-clause-has : goal.returns-clause-has
returns-clause-has g c = λ start before.
    let slice = c.args.slice.now in
    let old = c.args.self.now.pass.now in
    let new = c.post_words.new.pass in
    let posts = c.post_words.ensures in
    let board = c.args.self.now.board.now in
    let ready = c.requires.ready in
    let has : HasPosted (g.W.Wanted.wants board.wanted) slice.lo slice.hi slice.from start.pass.now old =
    subst (λ (b : BoardState _). HasPosted (g.W.Wanted.wants b.wanted) slice.lo slice.hi slice.from start.pass.now old) (sym before.0) before.1.1 in
    let more : HasPosted (g.W.Wanted.wants board.wanted) slice.lo slice.hi slice.until start.pass.now new = record {
      more = posts_more start.pass.now old new has.more posts.more;
      posted = groups_more (g.W.Wanted.wants board.wanted) slice.lo slice.hi slice.from old new posts.more c.args.self.now.count slice.until
          (λ p bit want. ((ready.wants p bit).0 want).0) has.posted
          posts.posted;
    } in (
      before.0,
      (
        before.1.0,
        subst (λ (b : BoardState _). HasPosted (g.W.Wanted.wants b.wanted) slice.lo slice.hi slice.until start.pass.now new) before.0
            more,
      ),
    )
