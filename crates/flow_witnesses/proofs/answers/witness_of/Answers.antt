use Rattle.std.proofs.Common.{◌<◌, sym, subst}
use Rattle.flow_why.specs.code.Found.{IsPlaceOf, IsThere, MarkList}
use Rattle.flow_why.specs.code.Frames.{question_of}
use Rattle.flow_why.specs.code.Trails.{AreHops}
use Rattle.flow_why.specs.declared.claim.Claim.TheVariants as claim
use Rattle.flow_why.proofs.solutions.Frames.{no_path, witness_here}
use Rattle.flow_witnesses.proofs.answers.witness_of.Goals as goal

pub place-requires : goal.place-requires
place-requires c =
    subst (λ (m : MarkList). c.args.point < m.points) (sym c.marks.ensures)
    (subst (λ n. c.args.point < n) (sym (c.requires.answered.marks.each claim.Holds).points) c.requires.within)

pub returns-in-None-clause-witness : goal.returns-in-None-clause-witness
returns-in-None-clause-witness c =
    no_path c.args.frame.now c.args.search.now c.requires.answered c.args.point c.requires.scope
    (subst (λ (m : MarkList). IsThere m c.args.point → ⊥) c.marks.ensures c.in-None.ensures)

pub returns-in_ok-hops-in-Some-clause-witness : goal.returns-in_ok-hops-in-Some-clause-witness
returns-in_ok-hops-in-Some-clause-witness c =
    let hops = c.in_ok-hops-in-Some.hops.items in
    let at = subst (λ (m : MarkList). IsPlaceOf m c.args.point c.in-Some.place) c.marks.ensures c.in-Some.ensures in
    let are = subst (λ n. AreHops (question_of c.args.frame.now) claim.Holds n hops) at.there c.in_ok-hops-in-Some.ensures in
    witness_here c.args.frame.now c.args.search.now c.requires.answered c.args.point hops are

pub returns-in_ok-hops-in-Some-clause-short : goal.returns-in_ok-hops-in-Some-clause-short
returns-in_ok-hops-in-Some-clause-short c = c.in_ok-hops-in-Some.ensures.count
