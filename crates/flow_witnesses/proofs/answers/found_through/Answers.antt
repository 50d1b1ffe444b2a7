use Rattle.std.proofs.Common.{◌<◌, sym, subst}
use Rattle.flow_why.specs.code.Found.{IsPlaceOf, IsThere, MarkList, marks_of}
use Rattle.flow_why.specs.code.Frames.{question_of}
use Rattle.flow_why.specs.code.Trails.{AreHops}
use Rattle.flow_why.proofs.solutions.Passing.{found_passes, never_found}
use Rattle.flow_witnesses.proofs.answers.found_through.Goals as goal

pub place-requires : goal.place-requires
place-requires c =
    subst (λ (m : MarkList). c.exit-exit.result < m.points) (sym c.marks.ensures)
    (subst (λ n. c.exit-exit.result < n) (sym (c.requires.answered.marks.each c.args.claim).points)
    (subst (λ n. n < (question_of c.args.frame.now).points) (sym c.exit-exit.ensures)
    (c.requires.answered.asked.formed.numbered.exit_in_range c.args.callee c.requires.there)))

pub returns-in-None : goal.returns-in-None
returns-in-None c =
    never_found c.args.frame.now c.args.search.now c.requires.answered c.requires.whole c.args.callee c.args.claim c.requires.inner
    (λ has. c.in-None.ensures (subst (λ (m : MarkList). IsThere m c.exit-exit.result) (sym c.marks.ensures)
    (subst (λ n. IsThere (marks_of c.args.search.now c.args.claim) n) (sym c.exit-exit.ensures) has)))

pub returns-in_ok-hops-in-Some : goal.returns-in_ok-hops-in-Some
returns-in_ok-hops-in-Some c =
    let question = question_of c.args.frame.now in
    let hops = c.in_ok-hops-in-Some.hops.items in
    let at = subst (λ (m : MarkList). IsPlaceOf m c.exit-exit.result c.in-Some.place) c.marks.ensures c.in-Some.ensures in
    let are = subst (λ n. AreHops question c.args.claim n hops) c.exit-exit.ensures
    (subst (λ n. AreHops question c.args.claim n hops) at.there c.in_ok-hops-in-Some.ensures) in
    found_passes c.args.frame.now c.args.search.now c.requires.answered c.requires.whole c.args.callee c.args.claim hops c.requires.inner c.requires.there are
