-- The expressions that the remarks on a point call very busy
use Rattle.std.proofs.Common.{◌≡◌, ◌∙◌, ℕ, Bool, true, false, not, ◌&&◌, List, [], ◌∷◌, ◌++◌, map, flat_map, Option, Some, None, option_map, unwrap_or}
use Rattle.std.proofs.Common.{if◌then◌else◌, refl, sym, ap, ap₂, append-nil}
use Rattle.std.proofs.lemmas.Grind.{flat_map-append}
use Rattle.flow_graph.specs.Points.{kind_at}
use Rattle.flow_graph.specs.declared.analysis.Analysis.TheVariants.{Busy}
use Rattle.flow_reports.specs.Reports.{Knowledge, busy_at, computed_at, dead_at, remarks_at, remarks_when_reached, unset_at}
use Rattle.report_answers.specs.Statements.{is_test}
use Rattle.flow_reports.specs.declared.remark.Remark.{Remark}
use Rattle.flow_reports.specs.declared.remark.Remark.TheVariants.{NeverReached, Unset, Computed, VeryBusy, Dead}
use Rattle.flow_texts.specs.Tables.{bits_at}
use Rattle.json_texts.specs.Changes.{busy_line, busy_object, very_busy}
use Rattle.json_texts.specs.code.Tells.{tells_busy}
use Rattle.tac_program.specs.Programs.{Program}
use Rattle.tac_program.specs.declared.program.StmtKind.{StmtKind}
use Rattle.text_pieces.specs.code.Lists.{some_stand}

none_of : (make : ℕ → Remark) → ((n : ℕ) → very_busy (make n) ≡ []) → (numbers : List ℕ) → flat_map very_busy (map make numbers) ≡ []
none_of make none [] = refl
none_of make none (n ∷ numbers) = ap₂ (λ (a b : List ℕ). a ++ b) (none n) (none_of make none numbers)

all_of_them : (numbers : List ℕ) → flat_map very_busy (map (λ bit. VeryBusy bit) numbers) ≡ numbers
all_of_them [] = refl
all_of_them (n ∷ numbers) = ap (λ (ns : List ℕ). n ∷ ns) (all_of_them numbers)

when_reached : (program : Program) (known : Knowledge) (point : ℕ)
    → flat_map very_busy (remarks_when_reached program known point) ≡ busy_at program known point
when_reached program known point =
    let unset : List Remark = map (λ variable. Unset variable) (unset_at program known point) in
    let computed : List Remark = map (λ bit. Computed bit) (computed_at program known point) in
    let busy : List Remark = map (λ bit. VeryBusy bit) (busy_at program known point) in
    let dead : List Remark = map (λ variable. Dead variable) (dead_at program known point) in
    flat_map-append very_busy (unset ++ computed ++ busy) dead
    ∙ ap₂ (λ (a b : List ℕ). a ++ b)
    (flat_map-append very_busy (unset ++ computed) busy
    ∙ ap₂ (λ (a b : List ℕ). a ++ b)
    (flat_map-append very_busy unset computed
    ∙ ap₂ (λ (a b : List ℕ). a ++ b) (none_of (λ n. Unset n) (λ n. refl) (unset_at program known point))
    (none_of (λ n. Computed n) (λ n. refl) (computed_at program known point)))
    (all_of_them (busy_at program known point)))
    (none_of (λ n. Dead n) (λ n. refl) (dead_at program known point))
    ∙ append-nil (busy_at program known point)

-- they are those that hold, where they are told
pub busy_remarks : (program : Program) (known : Knowledge) (point : ℕ)
    → flat_map very_busy (remarks_at program known point) ≡ (if tells_busy program known point then bits_at program Busy known.busy point else [])
busy_remarks program known point = by_kind (kind_at program point) refl
  where
    told : Option StmtKind → Bool
    told = λ o. unwrap_or (option_map is_test o) false

    numbers : List ℕ
    numbers = bits_at program Busy known.busy point

    by_path : (test path sure : Bool) → (if test && sure then numbers else []) ≡ busy_at program known point
        → flat_map very_busy (if path then remarks_when_reached program known point else NeverReached ∷ [])
        ≡ (if test && (path && sure) then numbers else [])
    by_path test true sure is = when_reached program known point ∙ sym is
    by_path true false sure is = refl
    by_path false false sure is = refl

    by_kind : (o : Option StmtKind) → kind_at program point ≡ o
        → flat_map very_busy (remarks_at program known point) ≡ (if tells_busy program known point then numbers else [])
    by_kind None is =
        ap (λ (o : Option StmtKind). flat_map very_busy (elim o [
          | Some statement ↦ if known.reach.has_path point then remarks_when_reached program known point else NeverReached ∷ []
          | None ↦ []
        ])) is
        ∙ sym (ap (λ (o : Option StmtKind). if told o && (known.reach.has_path point && not (known.doubtful point)) then numbers else []) is)
    by_kind (Some kind) is =
        ap (λ (o : Option StmtKind). flat_map very_busy (elim o [
          | Some statement ↦ if known.reach.has_path point then remarks_when_reached program known point else NeverReached ∷ []
          | None ↦ []
        ])) is
        ∙ by_path (told (Some kind)) (known.reach.has_path point) (not (known.doubtful point))
        (sym (ap (λ (o : Option StmtKind). if told o && not (known.doubtful point) then numbers else []) is))
        ∙ sym (ap (λ (o : Option StmtKind). if told o && (known.reach.has_path point && not (known.doubtful point)) then numbers else []) is)

-- the line of some numbers
line_of : (program : Program) (point : ℕ) (tells : Bool) (numbers : List ℕ) → (tells && some_stand numbers) ≡ true
    → busy_line program point (if tells then numbers else []) ≡ busy_object program point numbers
line_of program point true [] is = absurd (cc is)
line_of program point true (n ∷ numbers) is = refl
line_of program point false numbers is = absurd (cc is)

no_line_of : (program : Program) (point : ℕ) (tells : Bool) (numbers : List ℕ) → (tells && some_stand numbers) ≡ false
    → busy_line program point (if tells then numbers else []) ≡ []
no_line_of program point true [] is = refl
no_line_of program point true (n ∷ numbers) is = absurd (cc is)
no_line_of program point false numbers is = refl

pub busy_line_is : (program : Program) (known : Knowledge) (point : ℕ)
    → (tells_busy program known point && some_stand (bits_at program Busy known.busy point)) ≡ true
    → busy_object program point (bits_at program Busy known.busy point) ≡ busy_line program point (flat_map very_busy (remarks_at program known point))
busy_line_is program known point is =
    sym (ap (busy_line program point) (busy_remarks program known point)
    ∙ line_of program point (tells_busy program known point) (bits_at program Busy known.busy point) is)

pub no_busy_line : (program : Program) (known : Knowledge) (point : ℕ)
    → (tells_busy program known point && some_stand (bits_at program Busy known.busy point)) ≡ false
    → busy_line program point (flat_map very_busy (remarks_at program known point)) ≡ []
no_busy_line program known point is =
    ap (busy_line program point) (busy_remarks program known point)
    ∙ no_line_of program point (tells_busy program known point) (bits_at program Busy known.busy point) is
