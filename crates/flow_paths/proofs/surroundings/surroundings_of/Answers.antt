use Rattle.std.proofs.Common.{◌≡◌, ◌∙◌, ◌<◌, ◌-◌, ℕ, List, Bool, length, map, sym, subst, ap}
use Rattle.std.specs.Prelude.{All, IfSome}
use Rattle.flow_graph.specs.Points.{point_count}
use Rattle.flow_reports.specs.Reports.{IsKnowledge, Knowledge}
use Rattle.flow_reports.specs.code.Findings.{knowledge_of}
use Rattle.flow_reports.specs.declared.findings.Findings.{Findings}
use Rattle.flow_views.specs.Views.{end_shown, first_shown}
use Rattle.flow_views.proofs.facts.Tables.{named_there}
use Rattle.tac_program.specs.Programs.{Program}
use Rattle.flow_paths.specs.Doubts.{AreDoubts, HasOrigin, assignment_of, assignments_from}
use Rattle.flow_paths.specs.code.Arounds.{AreAroundsOf, AreSetsOf, IsAskable}
use Rattle.flow_paths.specs.code.Doubted.{with_doubt}
use Rattle.flow_paths.specs.declared.doubts.Doubt.{Doubt}
use Rattle.flow_paths.proofs.lists.Telling.{doubts_are, sets_are, shown_askable}
use Rattle.flow_paths.proofs.surroundings.surroundings_of.Goals as goal

pub of-requires-3-clause-asked : goal.of-requires-3-clause-asked
of-requires-3-clause-asked c =
    let found : Findings = c.in_ok-found.found in
    let same : found.graph.now ≡ c.in_ok-reasons.reasons = c.in_ok-found.ensures.program ∙ sym c.in_ok-reasons.ensures in
    subst (λ (p : Program). All (IsAskable p) c.deref.result.now) same
    (shown_askable found c.in_ok-found.ensures.found c.points_shown-shown.result c.deref.result.now
    (c.deref.ensures.value ∙ c.in_ok-remarks.ensures))

pub returns-clause-sets : goal.returns-clause-sets
returns-clause-sets c =
    let found : Findings = c.in_ok-found.found in
    let program : Program = found.graph.now in
    let is : program ≡ c.args.graph.now = c.in_ok-found.ensures.program in
    let same : c.in_ok-reasons.reasons ≡ program = c.in_ok-reasons.ensures ∙ sym is in
    let there : IfSome c.args.view.procedure (λ p. p < length program.procedures) =
    named_there program c.in_ok-found.ensures.found.sound c.args.view.procedure
    (subst (λ (p : Program). IfSome c.args.view.procedure (λ n. n < length p.procedure_names)) (sym is) c.requires.procedure) in
    let table = c.in_ok-arounds.arounds in
    subst (λ (p : Program). AreSetsOf p c.args.view table) is
    (sets_are found c.in_ok-found.ensures.found c.in_ok-found.ensures.doubtful c.args.view there c.points_shown-shown.result
    (c.points_shown-shown.ensures.first ∙ ap (λ (p : Program). first_shown p c.args.view.procedure) (sym is))
    (c.points_shown-shown.ensures.end ∙ ap (λ (p : Program). end_shown p c.args.view.procedure) (sym is))
    c.deref.result.now (c.deref.ensures.value ∙ c.in_ok-remarks.ensures) table
    (subst (λ (p : Program). AreAroundsOf p c.deref.result.now table) same c.in_ok-arounds.ensures))

pub returns-clause-doubts : goal.returns-clause-doubts
returns-clause-doubts c =
    let found : Findings = c.in_ok-found.found in
    let sure : Findings = c.take_doubt.new.found in
    let program : Program = found.graph.now in
    let is : program ≡ c.args.graph.now = c.in_ok-found.ensures.program in
    let same : c.in_ok-reasons.reasons ≡ program = c.in_ok-reasons.ensures ∙ sym is in
    let there : IfSome c.args.view.procedure (λ p. p < length program.procedures) =
    named_there program c.in_ok-found.ensures.found.sound c.args.view.procedure
    (subst (λ (p : Program). IfSome c.args.view.procedure (λ n. n < length p.procedure_names)) (sym is) c.requires.procedure) in
    let list : List Doubt = c.in_ok-doubts.doubts.items in
    let first : ℕ = c.points_shown-shown.result.first in
    let count : ℕ = c.points_shown-shown.result.end - first in
    let taken : c.deref-2.result.now ≡ found.doubtful.items = c.deref-2.ensures.value ∙ c.in_ok-doubtful.ensures.taken in
    let all : map assignment_of list ≡ assignments_from program (with_doubt (knowledge_of sure) found.doubtful.items) first count =
    c.in_ok-doubts.ensures.all
    ∙ ap (λ (p : Program). assignments_from p (with_doubt (knowledge_of sure) c.deref-2.result.now) first count) same
    ∙ ap (λ (ds : List Bool). assignments_from program (with_doubt (knowledge_of sure) ds) first count) taken in
    let origins : All (HasOrigin program) list = subst (λ (p : Program). All (HasOrigin p) list) same c.in_ok-doubts.ensures.origins in
    subst (λ (p : Program). (known : Knowledge) → IsKnowledge p known → AreDoubts p known c.args.view list) is
    (doubts_are found c.in_ok-found.ensures.found c.in_ok-found.ensures.doubtful c.args.view there c.points_shown-shown.result
    (c.points_shown-shown.ensures.first ∙ ap (λ (p : Program). first_shown p c.args.view.procedure) (sym is))
    (c.points_shown-shown.ensures.end ∙ ap (λ (p : Program). end_shown p c.args.view.procedure) (sym is))
    sure c.in_ok-doubtful.ensures.known list all origins)

pub returns-clause-points : goal.returns-clause-points
returns-clause-points c =
    subst (λ (p : Program). All (λ doubt. doubt.point < point_count p) c.in_ok-doubts.doubts.items) c.in_ok-reasons.ensures
    c.in_ok-doubts.ensures.points
