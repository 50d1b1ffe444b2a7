-- Which remarks there are, and of which bits and variables they are
use Rattle.std.proofs.Common.{◌≡◌, ℕ, suc, ◌+◌, ◌<◌, Bool, true, false, not, ◌&&◌, ◌||◌, List, [], ◌∷◌, ◌++◌, length, map, flat_map, cond}
use Rattle.std.proofs.Common.{Option, Some, None, option_and_then, option_map, unwrap_or, slice_get, if◌then◌else◌, refl, sym, ap, ◌∙◌, arith}
use Rattle.std.specs.List.{filter, range_with_len}
use Rattle.std.proofs.lemmas.Grind.{flat_map-append}
use Rattle.std.proofs.lemmas.List.Elements.{filter-append}
use Rattle.std.proofs.lemmas.List.Folds.{flat_map-map}
use Rattle.tac_program.specs.Programs.{Program}
use Rattle.tac_program.specs.Sound.{IsSound}
use Rattle.tac_program.specs.declared.program.Stmt.{Stmt}
use Rattle.tac_program.specs.declared.program.StmtKind.{StmtKind}
use Rattle.flow_graph.specs.Points.{kind_at, point_count, statement_at}
use Rattle.flow_graph.specs.Transfers.{reads}
use Rattle.flow_graph.specs.Universes.{evaluated_at}
use Rattle.flow_graph.specs.declared.analysis.Analysis.TheVariants.{Busy}
use Rattle.report_answers.specs.code.Operands.{AreRead}
use Rattle.flow_reports.specs.code.Findings.{remark_name, words_before, words_behind}
use Rattle.flow_texts.specs.code.Members.{texts_where}
use Rattle.text_pieces.specs.code.Lists.{some_stand}
use Rattle.flow_reports.specs.Reports.{Knowledge, busy_at, computed_at, dead_at, remark_text, remarks_at, remarks_when_reached}
use Rattle.report_answers.specs.Statements.{assigned, is_test}
use Rattle.flow_reports.specs.Reports.{unset_at}
use Rattle.flow_reports.specs.declared.remark.Remark.{Remark}
use Rattle.flow_reports.specs.declared.remark.Remark.TheVariants.{NeverReached, Unset, Computed, VeryBusy, Dead}
use Rattle.flow_texts.specs.Tables.{bits_at, variable_text}
use Rattle.report_answers.proofs.queries.Rising.{filter_both}
use Rattle.report_answers.proofs.queries.Statements.{read_are}

-- the texts of two numbers
pub two_texts : (text_of : ℕ → List ℕ) (test : ℕ → Bool) (m n : ℕ)
    → texts_where text_of test (m ∷ n ∷ []) ≡ texts_where text_of test (m ∷ []) ++ texts_where text_of test (n ∷ [])
two_texts text_of test m n =
    ap (flat_map text_of) (filter-append test (m ∷ []) (n ∷ [])) ∙ flat_map-append text_of (filter test (m ∷ [])) (filter test (n ∷ []))

-- whether one of two passes
pub one_passes : (test : ℕ → Bool) (n : ℕ) → some_stand (filter test (n ∷ [])) ≡ test n
one_passes test n = by_test (test n)
  where
    by_test : (b : Bool) → some_stand (cond b (n ∷ []) []) ≡ b
    by_test true = refl
    by_test false = refl

pub two_pass : (test : ℕ → Bool) (m n : ℕ) → some_stand (filter test (m ∷ n ∷ [])) ≡ (test m || test n)
two_pass test m n = by_test (test m)
  where
    by_test : (b : Bool) → some_stand (cond b (m ∷ filter test (n ∷ [])) (filter test (n ∷ []))) ≡ (b || test n)
    by_test true = refl
    by_test false = one_passes test n

-- what a remark says is what it says before the name, the name, and what it says behind
pub text_is : (program : Program) (remark : Remark)
    → words_before remark ++ remark_name program remark ++ words_behind remark ≡ remark_text program remark
text_is program NeverReached = refl
text_is program (Unset variable) = refl
text_is program (Computed bit) = refl
text_is program (VeryBusy bit) = refl
text_is program (Dead variable) = refl

-- the name of a variable, read of the same program
pub name_is : (program other : Program) (variable : ℕ) (name : List ℕ) → other ≡ program → slice_get other.variable_names variable ≡ Some name
    → name ≡ variable_text program variable
name_is program other variable name same found =
    sym (ap (λ (p : Program). variable_text p variable) (sym same) ∙ ap (λ o. unwrap_or o []) found)

-- they are those of all variables that it reads
pub unset_are : (program : Program) (known : Knowledge) (point : ℕ) (k : StmtKind) (variables : List ℕ) → IsSound program
    → point < point_count program → kind_at program point ≡ Some k → AreRead k variables
    → unset_at program known point ≡ filter (known.reach.contains point) variables
unset_are program known point k variables sound below at are =
    filter_both (reads program point) (known.reach.contains point) (range_with_len 0 (length program.variable_names))
    ∙ ap (filter (known.reach.contains point)) (read_are program point k variables sound below at are)

-- the expression that the statement evaluates, where it is available
pub computed_is : (program : Program) (known : Knowledge) (point bit : ℕ) → evaluated_at program point ≡ Some bit
    → known.avail.contains point bit ≡ true
    → computed_at program known point ≡ bit ∷ []
computed_is program known point bit evaluated available =
    ap (λ o. elim o [ Some b ↦ if known.avail.contains point b then b ∷ [] else [] | None ↦ [] ]) evaluated
    ∙ ap (λ t. if t then bit ∷ [] else []) available

-- an assignment, as it is dead or not
pub dead_is : (program : Program) (known : Knowledge) (point variable : ℕ) (k : StmtKind) (dead : Bool) → kind_at program point ≡ Some k
    → assigned k ≡ Some variable
    → (not (known.doubtful (point + 1)) && not (known.live.contains (point + 1) variable)) ≡ dead
    → dead_at program known point ≡ (if dead then variable ∷ [] else [])
dead_is program known point variable k dead at sets is =
    let next : suc point ≡ point + 1 = omega arith in
    ap (λ o. variables (option_and_then assigned o)) at
    ∙ ap variables sets
    ∙ ap (λ p. listed (not (known.doubtful p) && not (known.live.contains p variable))) next
    ∙ ap listed is
  where
    variables : Option ℕ → List ℕ
    variables = λ o. elim o [
      | Some v ↦ if not (known.doubtful (suc point)) && not (known.live.contains (suc point) v) then v ∷ [] else []
      | None ↦ []
    ]

    listed : Bool → List ℕ
    listed = λ t. if t then variable ∷ [] else []

-- a statement that assigns nothing
pub none_dead : (program : Program) (known : Knowledge) (point : ℕ) (k : StmtKind) → kind_at program point ≡ Some k → assigned k ≡ None
    → dead_at program known point ≡ []
none_dead program known point k at sets = ap (λ o. variables (option_and_then assigned o)) at ∙ ap variables sets
  where
    variables : Option ℕ → List ℕ
    variables = λ o. elim o [
      | Some v ↦ if not (known.doubtful (suc point)) && not (known.live.contains (suc point) v) then v ∷ [] else []
      | None ↦ []
    ]

pub some_if : (b : Bool) (n : ℕ) → some_stand (if b then n ∷ [] else []) ≡ b
some_if true n = refl
some_if false n = refl

-- the very busy expressions of a test, as they are told or not
pub busy_is : (program : Program) (known : Knowledge) (point : ℕ) (k : StmtKind) (answered : Bool) → kind_at program point ≡ Some k
    → (is_test k && not (known.doubtful point)) ≡ answered
    → busy_at program known point ≡ (if answered then bits_at program Busy known.busy point else [])
busy_is program known point k answered at is =
    ap (λ o. expressions_if (unwrap_or (option_map is_test o) false && not (known.doubtful point))) at ∙ ap expressions_if is
  where
    expressions_if : Bool → List ℕ
    expressions_if = λ t. if t then bits_at program Busy known.busy point else []

-- the texts of all remarks are those of each kind
pub remarks_are : (program : Program) (known : Knowledge) (point : ℕ) (text_of : Remark → List ℕ)
    → flat_map (λ v. text_of (Unset v)) (unset_at program known point)
    ++ flat_map (λ e. text_of (Computed e)) (computed_at program known point)
    ++ flat_map (λ e. text_of (VeryBusy e)) (busy_at program known point)
    ++ flat_map (λ v. text_of (Dead v)) (dead_at program known point)
    ≡ flat_map text_of (remarks_when_reached program known point)
remarks_are program known point text_of =
    sym
    (pieces (map (λ v. Unset v) us) (map (λ e. Computed e) cs) (map (λ e. VeryBusy e) bs) (map (λ v. Dead v) ds)
    ∙ ap (λ t. t ++ texts (map (λ e. Computed e) cs) ++ texts (map (λ e. VeryBusy e) bs) ++ texts (map (λ v. Dead v) ds))
    (flat_map-map text_of (λ v. Unset v) us)
    ∙ ap (λ t. flat_map (λ v. text_of (Unset v)) us ++ t ++ texts (map (λ e. VeryBusy e) bs) ++ texts (map (λ v. Dead v) ds))
    (flat_map-map text_of (λ e. Computed e) cs)
    ∙ ap (λ t. flat_map (λ v. text_of (Unset v)) us ++ flat_map (λ e. text_of (Computed e)) cs ++ t ++ texts (map (λ v. Dead v) ds))
    (flat_map-map text_of (λ e. VeryBusy e) bs)
    ∙ ap (λ t. flat_map (λ v. text_of (Unset v)) us ++ flat_map (λ e. text_of (Computed e)) cs ++ flat_map (λ e. text_of (VeryBusy e)) bs ++ t)
    (flat_map-map text_of (λ v. Dead v) ds))
  where
    us : List ℕ
    us = unset_at program known point

    cs : List ℕ
    cs = computed_at program known point

    bs : List ℕ
    bs = busy_at program known point

    ds : List ℕ
    ds = dead_at program known point

    texts : List Remark → List ℕ
    texts = flat_map text_of

    pieces : (a b c d : List Remark)
        → flat_map text_of (a ++ b ++ c ++ d) ≡ flat_map text_of a ++ flat_map text_of b ++ flat_map text_of c ++ flat_map text_of d
    pieces a b c d =
        flat_map-append text_of (a ++ b ++ c) d
        ∙ ap (λ t. t ++ flat_map text_of d) (flat_map-append text_of (a ++ b) c ∙ ap (λ t. t ++ flat_map text_of c) (flat_map-append text_of a b))

-- a statement that is reached, and one that is not
pub remarks_if : (program : Program) (known : Knowledge) (point : ℕ) (s : Stmt) (reached : Bool) → statement_at program point ≡ Some s
    → known.reach.has_path point ≡ reached
    → remarks_at program known point ≡ (if reached then remarks_when_reached program known point else NeverReached ∷ [])
remarks_if program known point s reached at is =
    ap
    (λ o. elim (option_map (λ (t : Stmt). t.kind) o) [
      | Some k ↦ if known.reach.has_path point then remarks_when_reached program known point else NeverReached ∷ []
      | None ↦ []
    ])
    at
    ∙ ap (λ b. if b then remarks_when_reached program known point else NeverReached ∷ []) is
