use Rattle.flow_team.proofs.posts.Posts.{of_still, posts_more, words_more}
use Rattle.flow_team.proofs.posting.post_point.Goals as goal

pub loop-word-preserved : goal.loop-word-preserved
loop-word-preserved g c =
    let before = c.loop-word.invariant in
    record {
      of = of_still c.args.board.now c.loop-word.pass c.post_word.new.pass c.post_word.ensures.more before.of;
      more = posts_more c.args.pass.now c.loop-word.pass c.post_word.new.pass before.more c.post_word.ensures.more;
      posted = words_more (g.W.Wanted.wants c.args.board.now.wanted)
          _ _ c.args.slice.now.from c.loop-word.pass c.post_word.new.pass c.post_word.ensures.more c.args.point c.loop-word.word
          before.posted c.post_word.ensures.posted;
    }
