use Rattle.std.proofs.Common.{subst}
use Rattle.flow_why.specs.code.Found.{Found}
use Rattle.flow_why.specs.code.Frames.{question_of}
use Rattle.flow_why.specs.code.Marked.{AreMarks}
use Rattle.flow_why.specs.code.Visits.{IsComplete}
use Rattle.flow_why.specs.code.Ways.{AreWays}
use Rattle.flow_why.proofs.solutions.Frames.{sited, ways_of}
use Rattle.flow_why.proofs.visits.Results.{if_ok_both}
use Rattle.flow_why.proofs.ways.base_search.Goals as goal

pub returns : goal.returns
returns c =
    let linked = c.args.links.now in
    let question = question_of c.bare_frame-frame.result in
    let is = sited linked c.points.ensures.few c.points.ensures.numbered in
    if_ok_both c.search_for.result (AreMarks question) (IsComplete question) (λ (found : Found). AreWays (record { linked = linked; found = found }))
    (λ found marks complete. ways_of linked is found (subst (λ q. AreMarks q found) c.bare_frame-frame.ensures.question marks)
    (subst (λ q. IsComplete q found) c.bare_frame-frame.ensures.question complete))
    c.search_for.ensures.marks c.search_for.ensures.complete
