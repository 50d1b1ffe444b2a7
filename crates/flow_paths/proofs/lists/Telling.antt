-- What stands around all that is shown, for whatever is known
use Rattle.std.proofs.Common.{◌≡◌, ◌∙◌, ℕ, zero, suc, ◌+◌, ◌-◌, ◌<◌, ◌≤◌, Bool, true, false, ◌&&◌, not, List, [], ◌∷◌, ◌++◌, length, map, flat_map, get_or}
use Rattle.std.proofs.Common.{Option, Some, None, option_and_then, if◌then◌else◌, refl, sym, ap, ap₂, subst, arith}
use Rattle.std.specs.Prelude.{All, Contains, IfSome}
use Rattle.std.specs.List.{filter, range_with_len}
use Rattle.std.proofs.lemmas.Bool.{le-leb, lt-ltb}
use Rattle.std.proofs.lemmas.List.Elements.{All-contains, All-filter}
use Rattle.flow_graph.specs.Points.{kind_at, point_count, points}
use Rattle.flow_graph.proofs.lists.Membership.{Contains-filter, Contains-flat_map, Contains-range}
use Rattle.flow_graph.proofs.places.Standing.{stands}
use Rattle.flow_reports.specs.Listed.{placed_at, remarks_of}
use Rattle.flow_reports.specs.Reports.{IsKnowledge, Knowledge, remarks_at}
use Rattle.report_answers.specs.Statements.{assigned}
use Rattle.report_answers.specs.code.Answered.{facts_in}
use Rattle.flow_reports.specs.code.Findings.{AreFindings, TellDoubtful, knowledge_of}
use Rattle.report_answers.specs.code.Reported.{Reported, busy_facts}
use Rattle.flow_graph.specs.declared.analysis.Analysis.TheVariants.{Reach, Live, Avail}
use Rattle.flow_reports.specs.declared.findings.Findings.{Findings}
use Rattle.flow_reports.specs.declared.listed.PlacedRemark.{PlacedRemark}
use Rattle.flow_reports.specs.declared.remark.Remark.{Remark}
use Rattle.flow_reports.proofs.knowledge.KnownReports.{Agree, agrees, same_remarks}
use Rattle.report_answers.proofs.queries.Statements.{next_below}
use Rattle.flow_views.specs.Views.{end_shown, first_shown, shown_points}
use Rattle.flow_views.specs.declared.view.View.{View}
use Rattle.tac_program.specs.Programs.{Program}
use Rattle.tac_program.specs.Sound.{IsSound}
use Rattle.tac_program.specs.declared.program.StmtKind.{StmtKind}
use Rattle.flow_paths.specs.Doubts.{AreDoubts, Assignment, HasOrigin, assignment_of, assignments_at, assignments_from, doubt_line, doubted_at}
use Rattle.flow_paths.specs.code.Arounds.{AreAroundsOf, AreSetsOf, AroundTable, IsAskable}
use Rattle.flow_paths.specs.code.Doubted.{has_shown, with_doubt}
use Rattle.flow_paths.specs.declared.doubts.Doubt.{Doubt}
use Rattle.flow_paths.specs.declared.shown.Shown.{Shown}
use Rattle.flow_paths.proofs.lists.Askable.{all_askable}
use Rattle.flow_paths.proofs.lists.Placed.{contained}
use Rattle.flow_paths.proofs.lists.Shown.{each_shown, inside}
use Rattle.flow_paths.proofs.lists.Surrounding.{around_found}

-- the first of what is shown, and its end
module _ (found : Findings) (are : AreFindings found) (doubts : TellDoubtful found.graph.now found.doubtful.items) (view : View)
    (there : IfSome view.procedure (λ p. p < length found.graph.now.procedures)) (shown : Shown)
    (first : shown.first ≡ first_shown found.graph.now view.procedure) (end : shown.end ≡ end_shown found.graph.now view.procedure) where
  -- The table of the remarks that are shown has the sets of all that is known.
  pub sets_are : (remarks : List PlacedRemark) → remarks ≡ filter (has_shown shown) (remarks_of found.graph.now (knowledge_of found))
      → (table : AroundTable) → AreAroundsOf found.graph.now remarks table → AreSetsOf found.graph.now view table
  sets_are remarks is table arounds = λ known is_known point remark shows said.
      let program : Program = found.graph.now in
      let every : List PlacedRemark = remarks_of program (knowledge_of found) in
      let bounds = inside program view.procedure there in
      let at = All-contains (λ k. (first_shown program view.procedure ≤ k) × (k < end_shown program view.procedure)) (shown_points program view) point
      (each_shown program view.facts view.procedure view.look there) shows in
      let low : first_shown program view.procedure ≤ point = at.0 in
      let high : point < end_shown program view.procedure = at.1 in
      let below : point < point_count program = omega (arith, high, bounds.1) in
      let placed : PlacedRemark = record { point = point; remark = remark } in
      let here : Contains (remarks_at program (knowledge_of found) point) remark =
      subst (λ (rs : List Remark). Contains rs remark)
      (sym (same_remarks program are.sound (knowledge_of found) known (agrees found are known is_known doubts) point below)) said in
      let put : Contains (placed_at point (remarks_at program (knowledge_of found) point)) placed =
      contained (λ (r : Remark). let one : PlacedRemark = record { point = point; remark = r } in one)
      (remarks_at program (knowledge_of found) point) remark here in
      let among : Contains every placed =
      Contains-flat_map (λ p. placed_at p (remarks_at program (knowledge_of found) p)) (points program) point placed
      (Contains-range 0 (point_count program) point (omega arith) (omega (arith, below))) put in
      let within : has_shown shown placed ≡ true =
      ap₂ (λ a b. a && b) (le-leb shown.first point (omega (arith, low, first))) (lt-ltb point shown.end (omega (arith, high, end))) in
      let kept : Contains (filter (has_shown shown) every) placed = Contains-filter (has_shown shown) every placed among within in
      around_found program remarks table arounds point remark below (subst (λ (rs : List PlacedRemark). Contains rs placed) (sym is) kept)

-- two that know the same agree on what doubt holds back
module _ (program : Program) (sound : IsSound program) (one other : Knowledge) (agree : Agree program one other) (point : ℕ)
    (below : point < point_count program) where
  doubted_by : Knowledge → Option ℕ → List ℕ
  doubted_by known o = elim o [
    | Some v ↦ if known.reach.has_path point && (known.doubtful (suc point) && not (known.live.contains (suc point) v)) then v ∷ [] else []
    | None ↦ []
  ]

  same_sets : (kind : StmtKind) → kind_at program point ≡ Some kind → (o : Option ℕ) → assigned kind ≡ o → doubted_by one o ≡ doubted_by other o
  unfolding doubted_by
  same_sets kind at None is = refl
  same_sets kind at (Some v) is =
      let next : suc point < point_count program = omega (arith, next_below program point kind (stands program sound point kind below at)) in
      ap (λ h. if h && (one.doubtful (suc point) && not (one.live.contains (suc point) v)) then v ∷ [] else []) (agree.flags point below)
      ∙ ap₂ (λ d l. if other.reach.has_path point && (d && not l) then v ∷ [] else []) (agree.doubtful (suc point) next)
      (agree.live point v kind below at is)

  same_by : (o : Option StmtKind) → kind_at program point ≡ o
      → doubted_by one (option_and_then assigned o) ≡ doubted_by other (option_and_then assigned o)
  unfolding doubted_by
  same_by None at = refl
  same_by (Some kind) at = same_sets kind at (assigned kind) refl

  pub same_doubted : doubted_at program one point ≡ doubted_at program other point
  unfolding doubted_by
  same_doubted = same_by (kind_at program point) refl

same_range : (f g : ℕ → List Assignment) (a n : ℕ) → ((k : ℕ) → a ≤ k → k < a + n → f k ≡ g k)
    → flat_map f (range_with_len a n) ≡ flat_map g (range_with_len a n)
same_range f g a zero same = refl
same_range f g a (suc n) same =
    ap₂ (λ (xs ys : List Assignment). xs ++ ys) (same a (omega arith) (omega arith))
    (same_range f g (a + 1) n (λ k from to. same k (omega (arith, from)) (omega (arith, to))))

-- what is known by answers and doubtful points
known_by : Reported → List Bool → Knowledge
known_by answers doubtful = record {
  reach = facts_in answers.replies Reach;
  live = facts_in answers.replies Live;
  avail = facts_in answers.replies Avail;
  busy = busy_facts answers;
  doubtful = λ point. get_or doubtful point false;
}

with_taken : (found sure : Findings) → sure.answers.now ≡ found.answers.now
    → with_doubt (knowledge_of sure) found.doubtful.items ≡ knowledge_of found
unfolding known_by
with_taken found sure same = ap (λ (answers : Reported). known_by answers found.doubtful.items) same

module _ (found : Findings) (are : AreFindings found) (doubts : TellDoubtful found.graph.now found.doubtful.items) (view : View)
    (there : IfSome view.procedure (λ p. p < length found.graph.now.procedures)) (shown : Shown)
    (first : shown.first ≡ first_shown found.graph.now view.procedure) (end : shown.end ≡ end_shown found.graph.now view.procedure) where
  -- The doubts are those of all that is known.
  pub doubts_are : (sure : Findings) → sure.answers.now ≡ found.answers.now → (list : List Doubt)
      → map assignment_of list
      ≡ assignments_from found.graph.now (with_doubt (knowledge_of sure) found.doubtful.items) shown.first (shown.end - shown.first)
      → All (HasOrigin found.graph.now) list
      → (known : Knowledge) → IsKnowledge found.graph.now known → AreDoubts found.graph.now known view list
  doubts_are sure same list is origins known is_known =
      let program : Program = found.graph.now in
      let bounds = inside program view.procedure there in
      let from : ℕ = first_shown program view.procedure in
      let until : ℕ = end_shown program view.procedure in
      record {
        all = is
            ∙ ap₂ (λ a b. assignments_from program (with_doubt (knowledge_of sure) found.doubtful.items) a (b - a)) first end
            ∙ ap (λ (k : Knowledge). assignments_from program k from (until - from)) (with_taken found sure same)
            ∙ same_range (assignments_at program (knowledge_of found)) (assignments_at program known) from (until - from)
            (λ k low high. ap (map (λ variable. let one : Assignment = (k, variable) in one))
            (same_doubted program are.sound (knowledge_of found) known (agrees found are known is_known doubts) k
            (omega (arith, low, high, bounds.0, bounds.1))));
        origins = origins;
      }

-- The remarks that are shown are askable.
pub shown_askable : (found : Findings) → AreFindings found → (shown : Shown) (remarks : List PlacedRemark)
    → remarks ≡ filter (has_shown shown) (remarks_of found.graph.now (knowledge_of found)) → All (IsAskable found.graph.now) remarks
shown_askable found are shown remarks is =
    subst (λ (rs : List PlacedRemark). All (IsAskable found.graph.now) rs) (sym is)
    (All-filter (has_shown shown) (IsAskable found.graph.now) (remarks_of found.graph.now (knowledge_of found))
    (all_askable found.graph.now are.sound (knowledge_of found)))

-- the lines of doubts, of the same program and the same doubts
pub same_lines : (json : List ℕ) (program other : Program) (list others : List Doubt) → other ≡ program → list ≡ others
    → json ++ flat_map (doubt_line program) list ≡ json ++ flat_map (doubt_line other) others
same_lines json program other list others same told =
    ap₂ (λ (p : Program) (ds : List Doubt). json ++ flat_map (doubt_line p) ds) (sym same) told
