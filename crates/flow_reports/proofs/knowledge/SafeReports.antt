-- What is found of a program is knowledge of it, and what a report lists as dead is safe
use Rattle.std.proofs.Common.{◌≡◌, ℕ, suc, ◌<◌, Bool, true, false, not, ◌&&◌, List, [], ◌∷◌, ◌++◌, inl, inr, length, map, subst}
use Rattle.std.proofs.Common.{Contains, Option, Some, None, option_and_then, if◌then◌else◌, refl, sym, ap, ◌∙◌, arith}
use Rattle.std.proofs.lemmas.List.Elements.{All-map, All-contains, Contains-get_or, Contains-append_cases}
use Rattle.tac_program.specs.Programs.{Program}
use Rattle.tac_program.specs.Sound.{IsSound}
use Rattle.tac_program.specs.declared.program.StmtKind.{StmtKind}
use Rattle.flow_graph.specs.Points.{kind_at, point_count}
use Rattle.flow_graph.proofs.graphs.GraphLaws.{dead_variables_are_safe}
use Rattle.flow_graph.proofs.places.Standing.{Stands, stands}
use Rattle.flow_graph.proofs.lists.Membership.{Contains-one}
use Rattle.flow_reports.specs.code.Findings.{AreFindings, TellDoubtful, knowledge_of}
use Rattle.flow_reports.specs.Reports.{IsKnowledge, IsListedDead, IsReport, IsSafeToDelete, Knowledge, ListsSafely, busy_at, computed_at}
use Rattle.report_answers.specs.Statements.{assigned}
use Rattle.flow_reports.specs.Reports.{dead_at, remarks_at, remarks_when_reached, report_of, unset_at}
use Rattle.flow_reports.specs.declared.remark.Remark.{Remark}
use Rattle.flow_reports.specs.declared.remark.Remark.TheVariants.{NeverReached, Unset, Computed, VeryBusy, Dead}
use Rattle.flow_reports.specs.declared.findings.Findings.{Findings}
use Rattle.flow_reports.proofs.knowledge.KnownReports.{all_is_known, all_known, report_of_all}
use Rattle.report_answers.proofs.queries.Statements.{assigned_there, next_below}

-- what is said of an assignment that is listed as dead
record IsDead (program : Program) (known : Knowledge) (point variable : ℕ) : Type 0 where
  statement : StmtKind
  there : kind_at program point ≡ Some statement
  sets : assigned statement ≡ Some variable
  sure : known.doubtful (suc point) ≡ false
  dead : known.live.contains (suc point) variable ≡ false

-- what is made otherwise is no remark that an assignment is dead
none_made : (make : ℕ → Remark) (xs : List ℕ) (variable : ℕ) → ((x : ℕ) → ¬ (make x ≡ Dead variable)) → ¬ (Contains (map make xs) (Dead variable))
none_made make xs variable other at =
    All-contains (λ r. r ≡ Dead variable → ⊥) (map make xs) (Dead variable) (All-map (λ r. r ≡ Dead variable → ⊥) make xs (λ k d low. other _))
    at refl

-- and one that is made so is made of its variable
made_dead : (xs : List ℕ) (variable : ℕ) → Contains (map (λ v. Dead v) xs) (Dead variable) → Contains xs variable
made_dead xs variable at =
    All-contains (λ r. r ≡ Dead variable → Contains xs variable) (map (λ v. Dead v) xs) (Dead variable)
    (All-map (λ r. r ≡ Dead variable → Contains xs variable) (λ v. Dead v) xs (λ k d low same.
    subst (Contains xs) (dead_variable _ variable same) (Contains-get_or xs k d low))) at refl
  where
    dead_variable : (x y : ℕ) → Dead x ≡ Dead y → x ≡ y
    dead_variable x y same = cc

-- an assignment that a remark of a point calls dead is the dead one there
listed_there : (program : Program) (known : Knowledge) (point variable : ℕ) → Contains (remarks_at program known point) (Dead variable)
    → Contains (dead_at program known point) variable
listed_there program known point variable listed = by_kind (kind_at program point) (known.reach.has_path point) listed
  where
    of_four : (first second third fourth : List Remark) → ¬ (Contains first (Dead variable)) → ¬ (Contains second (Dead variable))
        → ¬ (Contains third (Dead variable))
        → (Contains fourth (Dead variable) → Contains (dead_at program known point) variable)
        → Contains (first ++ second ++ third ++ fourth) (Dead variable) → Contains (dead_at program known point) variable
    of_four first second third fourth no_a no_b no_c of_d at = elim (Contains-append_cases (first ++ second ++ third) fourth (Dead variable) at) [
      | inr last ↦ of_d last
      | inl before ↦ elim (Contains-append_cases (first ++ second) third (Dead variable) before) [
        | inr there ↦ absurd (no_c there)
        | inl front ↦ elim (Contains-append_cases first second (Dead variable) front) [
          | inr there ↦ absurd (no_b there)
          | inl there ↦ absurd (no_a there)
        ]
      ]
    ]

    reached : Contains (remarks_when_reached program known point) (Dead variable) → Contains (dead_at program known point) variable
    reached at = of_four (map (λ x. Unset x) (unset_at program known point)) (map (λ x. Computed x) (computed_at program known point))
        (map (λ x. VeryBusy x) (busy_at program known point)) (map (λ x. Dead x) (dead_at program known point))
        (none_made (λ x. Unset x) (unset_at program known point) variable (λ x same. cc))
        (none_made (λ x. Computed x) (computed_at program known point) variable (λ x same. cc))
        (none_made (λ x. VeryBusy x) (busy_at program known point) variable (λ x same. cc))
        (made_dead (dead_at program known point) variable) at

    by_kind : (o : Option StmtKind) (has_path : Bool)
        → Contains (elim o [
          | Some statement ↦ if has_path then remarks_when_reached program known point else NeverReached ∷ []
          | None ↦ []
        ]) (Dead variable) → Contains (dead_at program known point) variable
    by_kind None has_path at = absurd (omega (arith, at.1))
    by_kind (Some statement) true at = reached at
    by_kind (Some statement) false at = absurd (none_made (λ x. NeverReached) (0 ∷ []) variable (λ x same. cc) at)

dead_of : (program : Program) (known : Knowledge) (point variable : ℕ) → Contains (dead_at program known point) variable
    → IsDead program known point variable
dead_of program known point variable listed = by_kind (kind_at program point) refl listed
  where
    by_tests : (k : StmtKind) (x : ℕ) (d l : Bool) → kind_at program point ≡ Some k → assigned k ≡ Some x → known.doubtful (suc point) ≡ d
        → known.live.contains (suc point) x ≡ l
        → Contains (if not d && not l then x ∷ [] else []) variable → IsDead program known point variable
    by_tests k x true l at sets sure dead is = absurd (omega (arith, is.1))
    by_tests k x false true at sets sure dead is = absurd (omega (arith, is.1))
    by_tests k x false false at sets sure dead is =
        let same : x ≡ variable = sym (Contains-one x variable is) in
        record {
          statement = k;
          there = at;
          sets = sets ∙ ap (λ v. let o : Option ℕ = Some v in o) same;
          sure = sure;
          dead = ap (known.live.contains (suc point)) (sym same) ∙ dead;
        }

    by_variable : (k : StmtKind) (o : Option ℕ) → kind_at program point ≡ Some k → assigned k ≡ o
        → Contains (elim o [
          | Some x ↦ if not (known.doubtful (suc point)) && not (known.live.contains (suc point) x) then x ∷ [] else []
          | None ↦ []
        ]) variable → IsDead program known point variable
    by_variable k None at sets is = absurd (omega (arith, is.1))
    by_variable k (Some x) at sets is = by_tests k x (known.doubtful (suc point)) (known.live.contains (suc point) x) at sets refl refl is

    by_kind : (o : Option StmtKind) → kind_at program point ≡ o
        → Contains (elim (option_and_then assigned o) [
          | Some x ↦ if not (known.doubtful (suc point)) && not (known.live.contains (suc point) x) then x ∷ [] else []
          | None ↦ []
        ]) variable → IsDead program known point variable
    by_kind None at is = absurd (omega (arith, is.1))
    by_kind (Some k) at is = by_variable k (assigned k) at refl is

listed_dead_is_safe : (program : Program) (known : Knowledge) (point variable : ℕ) → IsSound program → IsKnowledge program known
    → IsListedDead program known point variable → IsSafeToDelete program point variable
listed_dead_is_safe program known point variable sound is_known (below, listed) =
    let dead : IsDead program known point variable = dead_of program known point variable (listed_there program known point variable listed) in
    let stand : Stands program point dead.statement = stands program sound point dead.statement below dead.there in
    let next : suc point < point_count program = omega (arith, next_below program point dead.statement stand) in
    let there : variable < length program.variable_names = assigned_there program point variable dead.statement stand dead.sets in
    dead_variables_are_safe program (suc point) variable sound
    (λ doubt. absurd (not_both (known.doubtful (suc point)) ((is_known.doubtful (suc point) next).1 doubt) dead.sure))
    (λ live. absurd (not_both (known.live.contains (suc point) variable) ((is_known.live.sets (suc point) variable next there).1 live) dead.dead))
  where
    not_both : (b : Bool) → b ≡ true → b ≡ false → ⊥
    not_both true on off = absurd (cc off)
    not_both false on off = absurd (cc on)

pub is_report : (found : Findings) (text : List ℕ) → AreFindings found → TellDoubtful found.graph.now found.doubtful.items
    → text ≡ report_of found.graph.now (knowledge_of found)
    → IsReport found.graph.now text
is_report found text are answered is =
    record { known = all_known found are; is_known = all_is_known found are answered; is_text = is ∙ report_of_all found are answered }

pub lists_safely : (found : Findings) (text : List ℕ) → AreFindings found → TellDoubtful found.graph.now found.doubtful.items
    → text ≡ report_of found.graph.now (knowledge_of found)
    → ListsSafely found.graph.now text
lists_safely found text are answered is = record {
  known = all_known found are;
  is_known = all_is_known found are answered;
  is_text = is ∙ report_of_all found are answered;
  safe = λ point variable listed.
      listed_dead_is_safe found.graph.now (all_known found are) point variable are.sound (all_is_known found are answered) listed;
}
