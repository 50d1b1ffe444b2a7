-- What is said of the variable that a statement assigns, by what is found where no point is doubtful
use Rattle.std.proofs.Common.{◌≡◌, ℕ, suc, ◌+◌, ◌<◌, Bool, true, false, not, ◌&&◌, List, [], ◌∷◌, Option, Some, None, option_and_then, if◌then◌else◌}
use Rattle.std.proofs.Common.{refl, sym, ap, ap₂, ◌∙◌, length, get_or, arith}
use Rattle.std.proofs.lemmas.List.{get_or_default}
use Rattle.flow_graph.specs.Points.{kind_at, point_count}
use Rattle.flow_graph.specs.Universes.{defined_variable}
use Rattle.flow_graph.proofs.places.Standing.{stands}
use Rattle.flow_lints.specs.Lints.{LintKnowledge, by_executions}
use Rattle.flow_lints.specs.code.Lints.{AreLintFindings, is_unread}
use Rattle.flow_lints.specs.declared.found.LintFindings.{LintFindings}
use Rattle.flow_reports.specs.Reports.{Knowledge, dead_at}
use Rattle.report_answers.specs.Statements.{assigned}
use Rattle.flow_reports.proofs.knowledge.RemarkLines.{some_if}
use Rattle.report_answers.proofs.queries.Statements.{next_below}
use Rattle.tac_program.specs.Programs.{Program}
use Rattle.tac_program.specs.declared.program.StmtKind.{StmtKind}
use Rattle.tac_program.specs.declared.program.StmtKind.TheVariants as kind
use Rattle.text_pieces.specs.code.Lists.{some_stand}

abbrev dead_by : Knowledge → ℕ → Option ℕ → List ℕ
dead_by known point (Some v) = if not (known.doubtful (suc point)) && not (known.live.contains (suc point) v) then v ∷ [] else []
dead_by known point None = []

abbrev sets_by : Knowledge → ℕ → Option ℕ → Bool
sets_by known point (Some v) = not (known.doubtful (suc point)) && not (known.live.contains (suc point) v)
sets_by known point None = false

some_by : (known : Knowledge) (point : ℕ) (o : Option ℕ) → some_stand (dead_by known point o) ≡ sets_by known point o
some_by known point None = refl
some_by known point (Some v) = some_if (not (known.doubtful (suc point)) && not (known.live.contains (suc point) v)) v

some_dead : (program : Program) (known : Knowledge) (point : ℕ) (k : StmtKind) → kind_at program point ≡ Some k
    → some_stand (dead_at program known point) ≡ sets_by known point (assigned k)
some_dead program known point k at = ap (λ o. some_stand (dead_by known point (option_and_then assigned o))) at ∙ some_by known point (assigned k)

module _ (program : Program) (known : LintKnowledge) (plain : Knowledge) (point : ℕ) (k : StmtKind) (at : kind_at program point ≡ Some k) (flag : Bool)
    (none : plain.doubtful (suc point) ≡ false)
    (same : (v : ℕ) → plain.live.contains (suc point) v ≡ known.report.live.contains (suc point) v)
    (is : known.on_executions (suc point) ≡ flag) where
  -- it is dead where it is dead without doubt, and the next point not doubtful on executions
  pub dead_without : some_stand (dead_at program (by_executions known) point) ≡ (some_stand (dead_at program plain point) && not flag)
  dead_without =
      some_dead program (by_executions known) point k at ∙ go (assigned k) ∙ ap (λ b. b && not flag) (sym (some_dead program plain point k at))
    where
      table : (d l : Bool) → (not d && not l) ≡ ((true && not l) && not d)
      table true true = refl
      table true false = refl
      table false true = refl
      table false false = refl

      go : (o : Option ℕ) → sets_by (by_executions known) point o ≡ (sets_by plain point o && not flag)
      go None = refl
      go (Some v) =
          ap₂ (λ d l. not d && not l) is (sym (same v)) ∙ table flag (plain.live.contains (suc point) v)
          ∙ ap (λ d. (not d && not (plain.live.contains (suc point) v)) && not flag) (sym none)

  -- and left out where the next point is
  pub unread_with : is_unread known point (assigned k) ≡ (some_stand (dead_at program plain point) && flag)
  unread_with = go (assigned k) ∙ ap (λ b. b && flag) (sym (some_dead program plain point k at))
    where
      table : (d l : Bool) → (d && not l) ≡ ((true && not l) && d)
      table true true = refl
      table true false = refl
      table false true = refl
      table false false = refl

      go : (o : Option ℕ) → is_unread known point o ≡ (sets_by plain point o && flag)
      go None = refl
      go (Some v) =
          ap₂ (λ d l. d && not l) is (sym (same v)) ∙ table flag (plain.live.contains (suc point) v)
          ∙ ap (λ d. (not d && not (plain.live.contains (suc point) v)) && flag) (sym none)

-- the point behind a statement has a flag
pub next_flag : (found : LintFindings) → AreLintFindings found → (point : ℕ) (k : StmtKind) → point < point_count found.undoubted.graph.now
    → kind_at found.undoubted.graph.now point ≡ Some k → point + 1 < length found.on_executions.items
next_flag found are point k below at =
    omega (arith, are.flags, next_below found.undoubted.graph.now point k (stands found.undoubted.graph.now are.undoubted.sound point k below at))

-- it tells whether the point is doubtful on executions
pub flag_behind : (flags : List Bool) (point : ℕ) (flag : Bool) → point + 1 < length flags → flag ≡ get_or flags (point + 1) flag
    → get_or flags (suc point) false ≡ flag
flag_behind flags point flag there is =
    let behind : suc point ≡ point + 1 = omega arith in
    ap (λ n. get_or flags n false) behind ∙ get_or_default flags (point + 1) false flag there ∙ sym is

-- what a statement defines is what it assigns, if it assigns at all
defines : (k : StmtKind) (v w : ℕ) → assigned k ≡ Some v → defined_variable k ≡ Some w → v ≡ w
defines (kind.Copy x y) v w sets is = cc
defines (kind.Unary x op y) v w sets is = cc
defines (kind.Binary op x y z) v w sets is = cc
defines (kind.Goto label) v w sets is = absurd (cc sets)
defines (kind.If y label) v w sets is = absurd (cc sets)
defines (kind.IfFalse y label) v w sets is = absurd (cc sets)
defines (kind.IfCompare op label y z) v w sets is = absurd (cc sets)
defines (kind.Call callees) v w sets is = absurd (cc sets)
defines kind.Return v w sets is = absurd (cc sets)
defines (kind.Read x) v w sets is = absurd (cc sets)
defines (kind.Print y) v w sets is = absurd (cc sets)
defines kind.Skip v w sets is = absurd (cc sets)

assigns : (k : StmtKind) (v : ℕ) → assigned k ≡ Some v → ¬ (defined_variable k ≡ None)
assigns (kind.Copy x y) v sets is = cc is
assigns (kind.Unary x op y) v sets is = cc is
assigns (kind.Binary op x y z) v sets is = cc is
assigns (kind.Goto label) v sets is = cc sets
assigns (kind.If y label) v sets is = cc sets
assigns (kind.IfFalse y label) v sets is = cc sets
assigns (kind.IfCompare op label y z) v sets is = cc sets
assigns (kind.Call callees) v sets is = cc sets
assigns kind.Return v sets is = cc sets
assigns (kind.Read x) v sets is = cc sets
assigns (kind.Print y) v sets is = cc sets
assigns kind.Skip v sets is = cc sets

module _ (program : Program) (known : Knowledge) (point : ℕ) (k : StmtKind) (at : kind_at program point ≡ Some k) where
  dead_at_is : dead_at program known point ≡ dead_by known point (assigned k)
  dead_at_is = ap (λ o. dead_by known point (option_and_then assigned o)) at

  -- the dead variable is the one that is defined
  pub dead_defined : (w : ℕ) (dead : Bool) → defined_variable k ≡ Some w → dead ≡ some_stand (dead_at program known point)
      → dead_at program known point ≡ (if dead then w ∷ [] else [])
  dead_defined w dead is test = dead_at_is ∙ go (assigned k) refl ∙ ap (λ b. if b then w ∷ [] else []) (sym (test ∙ some_dead program known point k at))
    where
      go : (o : Option ℕ) → assigned k ≡ o → dead_by known point o ≡ (if sets_by known point o then w ∷ [] else [])
      go None sets = refl
      go (Some v) sets =
          let same : v ≡ w = defines k v w sets is in
          ap (λ n. if not (known.doubtful (suc point)) && not (known.live.contains (suc point) v) then n ∷ [] else []) same

  pub none_defined : defined_variable k ≡ None → dead_at program known point ≡ []
  none_defined is = dead_at_is ∙ go (assigned k) refl
    where
      go : (o : Option ℕ) → assigned k ≡ o → dead_by known point o ≡ []
      go None sets = refl
      go (Some v) sets = absurd (assigns k v sets is)
