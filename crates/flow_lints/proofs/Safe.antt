-- What is told to be dead no execution reads, and all that a report lists as dead is told
use Rattle.std.proofs.Common.{◌≡◌, inl, inr, ℕ, suc, ◌+◌, ◌<◌, Bool, true, false, not, ◌&&◌, List, [], ◌∷◌, ◌++◌, map, length, Contains}
use Rattle.std.proofs.Common.{Option, Some, None, option_and_then, if◌then◌else◌, refl, sym, ap, ◌∙◌, subst, arith}
use Rattle.std.proofs.lemmas.Bool.Decides.{same_from_decides}
use Rattle.std.proofs.lemmas.List.Elements.{Contains-append_cases, Contains-append_right}
use Rattle.execution_laws.proofs.Executions.{dead_variables_are_safe_on_executions, doubt_on_executions_is_doubt}
use Rattle.flow_graph.specs.Analyses.{shape_of}
use Rattle.flow_graph.specs.Points.{kind_at, point_count}
use Rattle.flow_graph.specs.declared.analysis.Analysis.TheVariants.{Live}
use Rattle.flow_graph.proofs.lists.Membership.{Contains-first, Contains-nil, Contains-one, Contains-in_map, Contains-in_filter}
use Rattle.flow_graph.proofs.paths.Reversal.{Contains-map}
use Rattle.flow_graph.proofs.places.Standing.{Stands, stands}
use Rattle.flow_lints.specs.Lints.{IsFirstOf, IsLinted, IsLintKnowledge, IsNeverRead, IsToldDead, LintKnowledge, by_executions, dead_variables_at}
use Rattle.flow_lints.specs.Lints.{is_endless, is_kept, is_reached, kept_at, left_out_of, lints_at, lints_of, uncalled_at, unreached_at}
use Rattle.flow_lints.specs.code.Lints.{AreLintFindings, TellDoubtOnExecutions, lint_knowledge_of, report_findings}
use Rattle.flow_lints.specs.declared.found.LintFindings.{LintFindings}
use Rattle.flow_lints.specs.declared.lint.Lint.TheVariants.{NeverCalled, Told}
use Rattle.flow_lints.specs.declared.lint.Linted.{Linted}
use Rattle.flow_lints.proofs.Known.{SameLints, same_first, same_left_out, same_lints}
use Rattle.flow_reports.specs.Reports.{IsListedDead, Knowledge, busy_at, computed_at, dead_at, remarks_at, remarks_when_reached, unset_at}
use Rattle.report_answers.specs.Statements.{assigned}
use Rattle.flow_reports.specs.code.Findings.{TellDoubtful}
use Rattle.flow_reports.specs.declared.remark.Remark.{Remark}
use Rattle.flow_reports.specs.declared.remark.Remark.TheVariants.{NeverReached, Unset, Computed, VeryBusy, Dead}
use Rattle.flow_reports.proofs.knowledge.KnownReports.{agrees, all_is_known, all_known}
use Rattle.flow_reports.proofs.knowledge.RemarkLines.{dead_is}
use Rattle.report_answers.proofs.queries.Statements.{assigned_there, next_below}
use Rattle.tac_program.specs.Programs.{Program}
use Rattle.tac_program.specs.Sound.{IsSound}
use Rattle.tac_program.specs.declared.program.StmtKind.{StmtKind}

not_both : (b : Bool) → b ≡ true → b ≡ false → ⊥
not_both true on off = absurd (cc off)
not_both false on off = absurd (cc on)

-- what is said of an assignment that is dead
record IsDead (program : Program) (known : Knowledge) (point variable : ℕ) : Type 0 where
  statement : StmtKind
  there : kind_at program point ≡ Some statement
  sets : assigned statement ≡ Some variable
  sure : known.doubtful (suc point) ≡ false
  dead : known.live.contains (suc point) variable ≡ false

dead_of : (program : Program) (known : Knowledge) (point variable : ℕ) → Contains (dead_at program known point) variable
    → IsDead program known point variable
dead_of program known point variable listed = by_kind (kind_at program point) refl listed
  where
    by_tests : (k : StmtKind) (x : ℕ) (d l : Bool) → kind_at program point ≡ Some k → assigned k ≡ Some x → known.doubtful (suc point) ≡ d
        → known.live.contains (suc point) x ≡ l
        → Contains (if not d && not l then x ∷ [] else []) variable → IsDead program known point variable
    by_tests k x true l at sets sure dead is = absurd (Contains-nil variable is)
    by_tests k x false true at sets sure dead is = absurd (Contains-nil variable is)
    by_tests k x false false at sets sure dead is =
        let same : x ≡ variable = sym (Contains-one x variable is) in
        record {
          statement = k;
          there = at;
          sets = sets ∙ ap (λ v. let o : Option ℕ = Some v in o) same;
          sure = sure;
          dead = ap (known.live.contains (suc point)) (sym same) ∙ dead;
        }

    by_variable : (k : StmtKind) (o : Option ℕ) → kind_at program point ≡ Some k → assigned k ≡ o
        → Contains (elim o [
          | Some x ↦ if not (known.doubtful (suc point)) && not (known.live.contains (suc point) x) then x ∷ [] else []
          | None ↦ []
        ]) variable → IsDead program known point variable
    by_variable k None at sets is = absurd (Contains-nil variable is)
    by_variable k (Some x) at sets is = by_tests k x (known.doubtful (suc point)) (known.live.contains (suc point) x) at sets refl refl is

    by_kind : (o : Option StmtKind) → kind_at program point ≡ o
        → Contains (elim (option_and_then assigned o) [
          | Some x ↦ if not (known.doubtful (suc point)) && not (known.live.contains (suc point) x) then x ∷ [] else []
          | None ↦ []
        ]) variable → IsDead program known point variable
    by_kind None at is = absurd (Contains-nil variable is)
    by_kind (Some k) at is = by_variable k (assigned k) at refl is

-- what is made otherwise is no remark that an assignment is dead
none_made : (make : ℕ → Remark) (xs : List ℕ) (variable : ℕ) → ((x : ℕ) → ¬ (Dead variable ≡ make x)) → ¬ (Contains (map make xs) (Dead variable))
none_made make xs variable other at =
    let (x, there, same) = Contains-in_map make xs (Dead variable) at in
    other x same

made_dead : (xs : List ℕ) (variable : ℕ) → Contains (map (λ v. Dead v) xs) (Dead variable) → Contains xs variable
made_dead xs variable at =
    let (x, there, is) = Contains-in_map (λ v. Dead v) xs (Dead variable) at in
    let same : x ≡ variable = cc in
    subst (Contains xs) same there

-- an assignment that a remark of a point calls dead is the dead one there, and is reached
record ListedThere (program : Program) (known : Knowledge) (point variable : ℕ) : Type 0 where
  reached : known.reach.has_path point ≡ true
  dead : Contains (dead_at program known point) variable

listed_there : (program : Program) (known : Knowledge) (point variable : ℕ) → Contains (remarks_at program known point) (Dead variable)
    → ListedThere program known point variable
listed_there program known point variable listed = by_kind (kind_at program point) (known.reach.has_path point) refl listed
  where
    when_reached : Contains (remarks_when_reached program known point) (Dead variable) → Contains (dead_at program known point) variable
    when_reached at =
        let first = map (λ x. Unset x) (unset_at program known point) in
        let second = map (λ x. Computed x) (computed_at program known point) in
        let third = map (λ x. VeryBusy x) (busy_at program known point) in
        elim (Contains-append_cases (first ++ second ++ third) (map (λ x. Dead x) (dead_at program known point)) (Dead variable) at) [
          | inr last ↦ made_dead (dead_at program known point) variable last
          | inl before ↦ elim (Contains-append_cases (first ++ second) third (Dead variable) before) [
            | inr there ↦ absurd (none_made (λ x. VeryBusy x) (busy_at program known point) variable (λ x same. cc) there)
            | inl ahead ↦ elim (Contains-append_cases first second (Dead variable) ahead) [
              | inr there ↦ absurd (none_made (λ x. Computed x) (computed_at program known point) variable (λ x same. cc) there)
              | inl there ↦ absurd (none_made (λ x. Unset x) (unset_at program known point) variable (λ x same. cc) there)
            ]
          ]
        ]

    by_kind : (o : Option StmtKind) (has_path : Bool) → known.reach.has_path point ≡ has_path
        → Contains (elim o [
          | Some statement ↦ if has_path then remarks_when_reached program known point else NeverReached ∷ []
          | None ↦ []
        ]) (Dead variable) → ListedThere program known point variable
    by_kind None has_path is at = absurd (Contains-nil (Dead variable) at)
    by_kind (Some statement) true is at = record { reached = is; dead = when_reached at }
    by_kind (Some statement) false is at =
        let same : Dead variable ≡ NeverReached = Contains-one NeverReached (Dead variable) at in
        absurd (cc same)

-- what is told to be dead is one of the dead variables there
told_dead : (program : Program) (known : LintKnowledge) (point variable : ℕ) → Contains (lints_at program known point) (Told (Dead variable))
    → Contains (dead_variables_at program known point) variable
told_dead program known point variable told =
    elim (Contains-append_cases (map (λ procedure. NeverCalled procedure) (uncalled_at program known point)) (map (λ remark. Told remark) remarks)
    (Told (Dead variable)) told) [
      | inl at ↦ absurd (uncalled at)
      | inr at ↦ among (told_remark at)
    ]
  where
    remarks : List Remark
    remarks = unreached_at program known point ++ kept_at program known point ++ map (λ v. Dead v) (dead_variables_at program known point)

    uncalled : ¬ (Contains (map (λ procedure. NeverCalled procedure) (uncalled_at program known point)) (Told (Dead variable)))
    uncalled at =
        let (procedure, there, same) =
        Contains-in_map (λ procedure. NeverCalled procedure) (uncalled_at program known point) (Told (Dead variable)) at in
        cc same

    told_remark : Contains (map (λ remark. Told remark) remarks) (Told (Dead variable)) → Contains remarks (Dead variable)
    told_remark at =
        let (remark, there, is) = Contains-in_map (λ remark. Told remark) remarks (Told (Dead variable)) at in
        let same : remark ≡ Dead variable = cc in
        subst (Contains remarks) same there

    unreached : (b : Bool) → ¬ (Contains (if b then NeverReached ∷ [] else []) (Dead variable))
    unreached true at = let same : Dead variable ≡ NeverReached = Contains-one NeverReached (Dead variable) at in cc same
    unreached false at = Contains-nil (Dead variable) at

    among : Contains remarks (Dead variable) → Contains (dead_variables_at program known point) variable
    among at =
        elim (Contains-append_cases (unreached_at program known point ++ kept_at program known point)
        (map (λ v. Dead v) (dead_variables_at program known point)) (Dead variable) at) [
          | inr last ↦ made_dead (dead_variables_at program known point) variable last
          | inl before ↦ elim (Contains-append_cases (unreached_at program known point) (kept_at program known point) (Dead variable) before) [
            | inl there ↦ absurd (unreached _ there)
            | inr there ↦
                let passes : is_kept (Dead variable) ≡ true =
                (Contains-in_filter is_kept (remarks_at program known.report point) (Dead variable) there).1 in
                absurd (cc passes)
          ]
        ]

dead_told : (program : Program) (known : LintKnowledge) (point variable : ℕ) → Contains (dead_variables_at program known point) variable
    → Contains (lints_at program known point) (Told (Dead variable))
dead_told program known point variable at =
    let remarks = map (λ v. Dead v) (dead_variables_at program known point) in
    let before = unreached_at program known point ++ kept_at program known point in
    Contains-append_right (map (λ procedure. NeverCalled procedure) (uncalled_at program known point)) (map (λ remark. Told remark) (before ++ remarks))
    (Told (Dead variable))
    (Contains-map (λ remark. Told remark) (before ++ remarks) (Dead variable)
    (Contains-append_right before remarks (Dead variable) (Contains-map (λ v. Dead v) (dead_variables_at program known point) variable at)))

-- the dead variables of a point are those of its statement, where it is reached
dead_there : (b : Bool) (xs : List ℕ) (variable : ℕ) → Contains (if b then xs else []) variable → Contains xs variable
dead_there true xs variable at = at
dead_there false xs variable at = absurd (Contains-nil variable at)

module _ (program : Program) (sound : IsSound program) (known : LintKnowledge) (is_known : IsLintKnowledge program known) where
  pub never_read : (point variable : ℕ) → IsToldDead program known point variable → IsNeverRead program point variable
  never_read point variable (below, told) =
      let dead : IsDead program (by_executions known) point variable =
      dead_of program (by_executions known) point variable
      (dead_there (is_reached known point) _ variable (told_dead program known point variable told)) in
      let stand : Stands program point dead.statement = stands program sound point dead.statement below dead.there in
      let next : suc point < point_count program = omega (arith, next_below program point dead.statement stand) in
      let there : variable < length program.variable_names = assigned_there program point variable dead.statement stand dead.sets in
      dead_variables_are_safe_on_executions program (suc point) variable sound
      (λ doubt. not_both (known.on_executions (suc point)) ((is_known.on_executions (suc point) next).1 doubt) dead.sure)
      (λ live. not_both (known.report.live.contains (suc point) variable) ((is_known.report.live.sets (suc point) variable next there).1 live)
      dead.dead)

  no_doubt : (point : ℕ) → point < point_count program → known.report.doubtful point ≡ false → (b : Bool) → known.on_executions point ≡ b
      → known.on_executions point ≡ false
  no_doubt point below sure false is = is
  no_doubt point below sure true is =
      let doubt = (is_known.on_executions point below).0 is in
      absurd (not_both (known.report.doubtful point)
      ((is_known.report.doubtful point below).1 (doubt_on_executions_is_doubt (shape_of program) point doubt)) sure)

  pub reported_is_told : (point variable : ℕ) → IsListedDead program known.report point variable → IsToldDead program known point variable
  reported_is_told point variable (below, listed) =
      let here = listed_there program known.report point variable listed in
      let dead : IsDead program known.report point variable = dead_of program known.report point variable here.dead in
      let stand : Stands program point dead.statement = stands program sound point dead.statement below dead.there in
      let next : suc point < point_count program = omega (arith, next_below program point dead.statement stand) in
      let sure : known.on_executions (suc point) ≡ false = no_doubt (suc point) next dead.sure (known.on_executions (suc point)) refl in
      let behind : suc point ≡ point + 1 = omega arith in
      let test : (not (known.on_executions (point + 1)) && not (known.report.live.contains (point + 1) variable)) ≡ true =
      subst (λ (p : ℕ). (not (known.on_executions p) && not (known.report.live.contains p variable)) ≡ true) behind (rw (sure, dead.dead) refl) in
      let is : dead_at program (by_executions known) point ≡ variable ∷ [] =
      dead_is program (by_executions known) point variable dead.statement true dead.there dead.sets test in
      let at : Contains (dead_variables_at program known point) variable =
      rw here.reached (subst (λ xs. Contains xs variable) (sym is) (Contains-first variable [])) in
      (below, dead_told program known point variable at)

-- what was found tells lints of all that is known
module _ (found : LintFindings) (are : AreLintFindings found)
    (doubts : TellDoubtful found.undoubted.graph.now found.doubtful.items)
    (flags : TellDoubtOnExecutions found.undoubted.graph.now found.on_executions.items) where
  all_that_is_known : LintKnowledge
  all_that_is_known =
      record { report = all_known (report_findings found) are.report; on_executions = λ point. (lint_knowledge_of found).on_executions point }

  is_all_known : IsLintKnowledge found.undoubted.graph.now all_that_is_known
  unfolding all_that_is_known
  is_all_known = record { report = all_is_known (report_findings found) are.report doubts; on_executions = flags.each }

  same_known : SameLints found.undoubted.graph.now (lint_knowledge_of found) all_that_is_known
  unfolding all_that_is_known
  same_known =
      let known = all_is_known (report_findings found) are.report doubts in
      record {
        report = agrees (report_findings found) are.report (all_known (report_findings found) are.report) known doubts;
        on_executions = refl;
        finish = λ point below. same_from_decides _ _ (are.report.answers.answers.paths Live point below) (known.live.paths point below);
      }

  pub is_linted : (linted : Linted) → linted.lints.items ≡ lints_of found.undoubted.graph.now (lint_knowledge_of found)
      → linted.left_out ≡ left_out_of found.undoubted.graph.now (lint_knowledge_of found)
      → IsFirstOf (is_endless (lint_knowledge_of found)) (point_count found.undoubted.graph.now) linted.endless
      → IsLinted found.undoubted.graph.now linted
  is_linted linted lints left_out endless =
      let program : Program = found.undoubted.graph.now in
      let sound = are.report.sound in
      record {
        known = all_that_is_known;
        is_known = is_all_known;
        lints = lints ∙ same_lints program sound (lint_knowledge_of found) all_that_is_known same_known;
        left_out = left_out ∙ same_left_out program sound (lint_knowledge_of found) all_that_is_known same_known;
        endless = same_first program sound (lint_knowledge_of found) all_that_is_known same_known linted.endless endless;
        safe = never_read program sound all_that_is_known is_all_known;
        reported = reported_is_told program sound all_that_is_known is_all_known;
      }
