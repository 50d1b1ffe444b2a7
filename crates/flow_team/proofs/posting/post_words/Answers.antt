use Rattle.flow_team.proofs.posts.Posts.{of_still, posts_more, points_more}
use Rattle.flow_team.proofs.posting.post_words.Goals as goal

pub loop-point-preserved : goal.loop-point-preserved
loop-point-preserved g c =
    let before = c.loop-point.invariant in
    record {
      of = of_still c.args.board.now c.loop-point.pass c.post_point.new.pass c.post_point.ensures.more before.of;
      more = posts_more c.args.pass.now c.loop-point.pass c.post_point.new.pass before.more c.post_point.ensures.more;
      posted = points_more (g.W.Wanted.wants c.args.board.now.wanted)
          _ _ c.args.slice.now.from c.loop-point.pass c.post_point.new.pass c.post_point.ensures.more c.args.slice.now.until c.loop-point.point
          before.posted c.post_point.ensures.posted;
    }
