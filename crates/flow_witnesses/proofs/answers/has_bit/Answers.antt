use Rattle.std.proofs.Common.{◌<◌, sym, subst}
use Rattle.flow_why.specs.declared.claim.Claim.TheVariants as claim
use Rattle.flow_why.proofs.solutions.Frames.{tells_path}
use Rattle.flow_witnesses.proofs.answers.has_bit.Goals as goal

pub has-requires : goal.has-requires
has-requires c = subst (λ n. c.args.point < n) (sym (c.requires.answered.marks.each claim.Holds).points) c.requires.within

pub returns : goal.returns
returns c = tells_path c.args.frame.now c.args.search.now c.requires.answered c.args.point c.requires.scope c.has.result c.has.ensures
