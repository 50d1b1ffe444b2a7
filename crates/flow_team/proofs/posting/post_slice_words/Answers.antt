use Rattle.std.proofs.Common.{refl, arith}
use Rattle.flow_team.proofs.posts.Posts.{posts_none}
use Rattle.flow_team.proofs.posting.post_slice_words.Goals as goal

pub solve_each-requires-clause-begun : goal.solve_each-requires-clause-begun
solve_each-requires-clause-begun g c = (
  refl,
  (
    refl,
    record {
      more = posts_none c.args.pass.now;
      posted = λ p bit want low high below. absurd (omega (arith, low, below));
    },
  ),
)
