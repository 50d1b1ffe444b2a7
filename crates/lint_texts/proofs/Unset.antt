-- Where it is told that a variable may be used before it is set, some valid path brings its value at the beginning there
use Rattle.std.proofs.Common.{◌≡◌, ℕ, zero, suc, ◌+◌, ◌<◌, ◌≤◌, Bool, true, false, ◌&&◌, List, [], ◌∷◌, ◌++◌, length, map, flat_map, Option, Some, None}
use Rattle.std.proofs.Common.{if◌then◌else◌, nat_eq, refl, sym, subst, arith}
use Rattle.std.specs.Prelude.{All}
use Rattle.std.specs.List.{filter, range_with_len}
use Rattle.std.proofs.lemmas.Bool.{and_parts, eqb-true}
use Rattle.std.proofs.lemmas.List.Concat.{flat_map-cons}
use Rattle.std.proofs.lemmas.List.Elements.{All-append, All-cons, All-filter, All-head, All-map, All-nil, All-tail, All-weaker, filter_passes}
use Rattle.flow_graph.specs.Points.{kind_at, point_count}
use Rattle.flow_graph.specs.Transfers.{reads}
use Rattle.flow_lints.specs.Lints.{IsLintKnowledge, IsLinted, LintKnowledge, begins_unreached, dead_variables_at, is_kept, kept_at, lints_at, lints_placed_at}
use Rattle.flow_lints.specs.Lints.{unreached_at, uncalled_at}
use Rattle.flow_lints.specs.declared.lint.Lint.{Lint}
use Rattle.flow_lints.specs.declared.lint.Lint.TheVariants.{NeverCalled, Told}
use Rattle.flow_lints.specs.declared.lint.Linted.{Linted}
use Rattle.flow_lints.specs.declared.lint.PlacedLint.{PlacedLint}
use Rattle.flow_reports.specs.Reports.{IsKnowledge, Knowledge, busy_at, computed_at, dead_at, remarks_at, remarks_when_reached, unset_at}
use Rattle.flow_reports.specs.declared.remark.Remark.{Remark}
use Rattle.flow_reports.specs.declared.remark.Remark.TheVariants.{NeverReached, Unset, Computed, VeryBusy, Dead}
use Rattle.report_answers.proofs.queries.Statements.{variables_have_dummies}
use Rattle.lint_texts.specs.LintTexts.{behind_first, is_told, is_use_of, use_told, uses_told}
use Rattle.lint_texts.specs.code.Uses.{IsUnsetAt}
use Rattle.lint_texts.specs.declared.telling.Telling.{Telling}
use Rattle.tac_program.specs.Programs.{Program}
use Rattle.tac_program.specs.declared.program.StmtKind.{StmtKind}

-- what holds of each holds of all
all_so : {A : Type 0} (P : A → Type 0) → ((x : A) → P x) → (xs : List A) → All P xs
all_so P each [] = All-nil P
all_so P each (x ∷ xs) = All-cons P x xs (each x) (all_so P each xs)

all_below : (a n limit : ℕ) → a + n ≤ limit → All (λ k. k < limit) (range_with_len a n)
all_below a zero limit less = All-nil (λ k. k < limit)
all_below a (suc n) limit less =
    All-cons (λ k. k < limit) a (range_with_len (a + 1) n) (omega (arith, less)) (all_below (a + 1) n limit (omega (arith, less)))

both : {A : Type 0} (P Q : A → Type 0) (xs : List A) → All P xs → All Q xs → All (λ x. P x × Q x) xs
both P Q xs one other = λ k d below. (one k d below, other k d below)

-- what a remark tells of a variable that may be used before it is set
abbrev pub IsTrueUse : Program → ℕ → Remark → Type 0
IsTrueUse program point NeverReached = Unit {0}
IsTrueUse program point (Unset variable) = IsUnsetAt program variable point
IsTrueUse program point (Computed bit) = Unit {0}
IsTrueUse program point (VeryBusy bit) = Unit {0}
IsTrueUse program point (Dead variable) = Unit {0}

abbrev pub IsTrueLint : Program → PlacedLint → Type 0
IsTrueLint program placed = elim placed.lint [ NeverCalled procedure ↦ Unit {0} | Told remark ↦ IsTrueUse program placed.point remark ]

module _ (program : Program) (known : LintKnowledge) (is : IsLintKnowledge program known) where
  unset_reach : (point : ℕ) → point < point_count program → All (λ v. IsUnsetAt program v point) (unset_at program known.report point)
  unset_reach point below =
      let test : ℕ → Bool = λ v. reads program point v && known.report.reach.contains point v in
      let numbers : List ℕ = range_with_len 0 (length program.variable_names) in
      let named : All (λ v. (test v ≡ true) × (v < length program.variable_names)) (filter test numbers) =
      both (λ v. test v ≡ true) (λ v. v < length program.variable_names) (filter test numbers) (filter_passes test numbers)
      (All-filter test (λ v. v < length program.variable_names) numbers (all_below 0 (length program.variable_names) (length program.variable_names) (omega arith))) in
      All-weaker (λ v. (test v ≡ true) × (v < length program.variable_names)) (λ v. IsUnsetAt program v point)
      (λ v said.
      let parts = and_parts (reads program point v) (known.report.reach.contains point v) said.0 in
      record {
        named = said.1;
        placed = below;
        reaches = (is.report.reach.sets point v below (omega (arith, said.1, variables_have_dummies program))).0 parts.1;
      })
      (filter test numbers) named

  true_when_reached : (point : ℕ) → point < point_count program → All (IsTrueUse program point) (remarks_when_reached program known.report point)
  true_when_reached point below =
      let P : Remark → Type 0 = IsTrueUse program point in
      let unset : List Remark = map (λ variable. Unset variable) (unset_at program known.report point) in
      let computed : List Remark = map (λ bit. Computed bit) (computed_at program known.report point) in
      let busy : List Remark = map (λ bit. VeryBusy bit) (busy_at program known.report point) in
      let dead : List Remark = map (λ variable. Dead variable) (dead_at program known.report point) in
      All-append P (unset ++ computed ++ busy) dead
      (All-append P (unset ++ computed) busy
      (All-append P unset computed
      (All-map P (λ variable. Unset variable) (unset_at program known.report point) (unset_reach point below))
      (All-map P (λ bit. Computed bit) (computed_at program known.report point) (all_so (λ bit. Unit {0}) (λ bit. tt) (computed_at program known.report point))))
      (All-map P (λ bit. VeryBusy bit) (busy_at program known.report point) (all_so (λ bit. Unit {0}) (λ bit. tt) (busy_at program known.report point))))
      (All-map P (λ variable. Dead variable) (dead_at program known.report point) (all_so (λ variable. Unit {0}) (λ variable. tt) (dead_at program known.report point)))

  abbrev remarks_by : ℕ → Option StmtKind → Bool → List Remark
  remarks_by point o b = elim o [
    | Some statement ↦ if b then remarks_when_reached program known.report point else NeverReached ∷ []
    | None ↦ []
  ]

  true_remarks : (point : ℕ) → point < point_count program → (o : Option StmtKind) (b : Bool) → All (IsTrueUse program point) (remarks_by point o b)
  true_remarks point below None b = All-nil (IsTrueUse program point)
  true_remarks point below (Some kind) true = true_when_reached point below
  true_remarks point below (Some kind) false = All-cons (IsTrueUse program point) NeverReached [] tt (All-nil (IsTrueUse program point))

  abbrev unreached_or_none : ℕ → Bool → List Remark
  unreached_or_none point b = if b then NeverReached ∷ [] else []

  true_unreached : (point : ℕ) (b : Bool) → All (IsTrueUse program point) (unreached_or_none point b)
  true_unreached point true = All-cons (IsTrueUse program point) NeverReached [] tt (All-nil (IsTrueUse program point))
  true_unreached point false = All-nil (IsTrueUse program point)

  -- all lints at a point are true
  true_lints : (point : ℕ) → point < point_count program
      → All (λ lint. IsTrueLint program (record { point = point; lint = lint })) (lints_at program known point)
  true_lints point below =
      let P : Remark → Type 0 = IsTrueUse program point in
      let L : Lint → Type 0 = λ lint. IsTrueLint program (record { point = point; lint = lint }) in
      let unreached : List Remark = unreached_at program known point in
      let kept : List Remark = kept_at program known point in
      let dead : List Remark = map (λ variable. Dead variable) (dead_variables_at program known point) in
      All-append L (map (λ procedure. NeverCalled procedure) (uncalled_at program known point)) (map (λ remark. Told remark) (unreached ++ kept ++ dead))
      (All-map L (λ procedure. NeverCalled procedure) (uncalled_at program known point)
      (all_so (λ procedure. Unit {0}) (λ procedure. tt) (uncalled_at program known point)))
      (All-map L (λ remark. Told remark) (unreached ++ kept ++ dead)
      (All-append P (unreached ++ kept) dead
      (All-append P unreached kept (true_unreached point (begins_unreached program known point))
      (All-filter is_kept P (remarks_at program known.report point)
      (true_remarks point below (kind_at program point) (known.report.reach.has_path point))))
      (All-map P (λ variable. Dead variable) (dead_variables_at program known point)
      (all_so (λ variable. Unit {0}) (λ variable. tt) (dead_variables_at program known point)))))

  true_placed : (point : ℕ) (lints : List Lint) → All (λ lint. IsTrueLint program (record { point = point; lint = lint })) lints
      → All (IsTrueLint program) (lints_placed_at point lints)
  true_placed point lints all = All-map (IsTrueLint program) (λ lint. record { point = point; lint = lint }) lints all

  all_true : (from count : ℕ) → from + count ≤ point_count program
      → All (IsTrueLint program) (flat_map (λ point. lints_placed_at point (lints_at program known point)) (range_with_len from count))
  all_true from zero fits = All-nil (IsTrueLint program)
  all_true from (suc count) fits =
      subst (All (IsTrueLint program))
      (sym (flat_map-cons (λ point. lints_placed_at point (lints_at program known point)) from (range_with_len (from + 1) count)))
      (All-append (IsTrueLint program) (lints_placed_at from (lints_at program known from))
      (flat_map (λ point. lints_placed_at point (lints_at program known point)) (range_with_len (from + 1) count))
      (true_placed from (lints_at program known from) (true_lints from (omega (arith, fits))))
      (all_true (from + 1) count (omega (arith, fits))))

-- Each lint that a variable may be used before it is set is true.
pub true_uses : (program : Program) (linted : Linted) → IsLinted program linted → All (IsTrueLint program) linted.lints.items
true_uses program linted is =
    subst (All (IsTrueLint program)) (sym is.lints) (all_true program is.known is.is_known 0 (point_count program) (omega arith))

-- the points that are told of one lint, by whether it is told
abbrev told_by : ℕ → ℕ → Lint → Bool → List ℕ
told_by variable point lint b = if b then (if is_use_of variable lint then point ∷ [] else []) else []

module _ (program : Program) (variable : ℕ) where
  true_use : (point other : ℕ) → IsUnsetAt program other point → (b : Bool) → nat_eq other variable ≡ b
      → All (IsUnsetAt program variable) (if b then point ∷ [] else [])
  true_use point other is true same =
      All-cons (IsUnsetAt program variable) point [] (subst (λ v. IsUnsetAt program v point) (eqb-true other variable same) is)
      (All-nil (IsUnsetAt program variable))
  true_use point other is false same = All-nil (IsUnsetAt program variable)

  true_told : (point : ℕ) (lint : Lint) → IsTrueLint program (record { point = point; lint = lint }) → (b : Bool)
      → All (IsUnsetAt program variable) (told_by variable point lint b)
  true_told point lint is false = All-nil (IsUnsetAt program variable)
  true_told point (NeverCalled procedure) is true = All-nil (IsUnsetAt program variable)
  true_told point (Told NeverReached) is true = All-nil (IsUnsetAt program variable)
  true_told point (Told (Unset other)) is true = true_use point other is (nat_eq other variable) refl
  true_told point (Told (Computed bit)) is true = All-nil (IsUnsetAt program variable)
  true_told point (Told (VeryBusy bit)) is true = All-nil (IsUnsetAt program variable)
  true_told point (Told (Dead other)) is true = All-nil (IsUnsetAt program variable)

  true_all : (telling : Telling) (lints : List PlacedLint) → All (IsTrueLint program) lints
      → All (IsUnsetAt program variable) (flat_map (use_told telling program variable) lints)
  true_all telling [] all = All-nil (IsUnsetAt program variable)
  true_all telling (placed ∷ lints) all =
      subst (All (IsUnsetAt program variable)) (sym (flat_map-cons (use_told telling program variable) placed lints))
      (All-append (IsUnsetAt program variable) (use_told telling program variable placed) (flat_map (use_told telling program variable) lints)
      (true_told placed.point placed.lint (All-head (IsTrueLint program) placed lints all) (is_told telling program placed))
      (true_all telling lints (All-tail (IsTrueLint program) placed lints all)))

-- Each use that is told is one to which some valid path brings the variable's value at the beginning.
pub told_unset : (telling : Telling) (program : Program) (linted : Linted) → IsLinted program linted → (variable : ℕ)
    → All (IsUnsetAt program variable) (uses_told telling program linted variable)
told_unset telling program linted is variable = true_all program variable telling linted.lints.items (true_uses program linted is)

-- so is the first of them
pub first_unset : (program : Program) (variable first : ℕ) (points later : List ℕ) → All (IsUnsetAt program variable) points → points ≡ first ∷ later
    → IsUnsetAt program variable first
first_unset program variable first points later all is =
    All-head (IsUnsetAt program variable) first later (subst (All (IsUnsetAt program variable)) is all)

-- and lies in the program
placed_told : (bound variable point : ℕ) (lint : Lint) → point < bound → (b c : Bool)
    → All (λ p. p < bound) (if b then (if c then point ∷ [] else []) else [])
placed_told bound variable point lint below false c = All-nil (λ p. p < bound)
placed_told bound variable point lint below true false = All-nil (λ p. p < bound)
placed_told bound variable point lint below true true = All-cons (λ p. p < bound) point [] below (All-nil (λ p. p < bound))

all_placed : (bound : ℕ) (telling : Telling) (program : Program) (variable : ℕ) (lints : List PlacedLint) → All (λ (placed : PlacedLint). placed.point < bound) lints
    → All (λ p. p < bound) (flat_map (use_told telling program variable) lints)
all_placed bound telling program variable [] all = All-nil (λ p. p < bound)
all_placed bound telling program variable (placed ∷ lints) all =
    subst (All (λ p. p < bound)) (sym (flat_map-cons (use_told telling program variable) placed lints))
    (All-append (λ p. p < bound) (use_told telling program variable placed) (flat_map (use_told telling program variable) lints)
    (placed_told bound variable placed.point placed.lint (All-head (λ (one : PlacedLint). one.point < bound) placed lints all) (is_told telling program placed)
    (is_use_of variable placed.lint))
    (all_placed bound telling program variable lints (All-tail (λ (one : PlacedLint). one.point < bound) placed lints all)))

later_placed : (bound : ℕ) (points : List ℕ) → All (λ p. p < bound) points → All (λ p. p < bound) (behind_first points)
later_placed bound [] all = All-nil (λ p. p < bound)
later_placed bound (first ∷ later) all = All-tail (λ p. p < bound) first later all

pub later_below : (telling : Telling) (program : Program) (linted : Linted) (variable : ℕ)
    → All (λ (placed : PlacedLint). placed.point < point_count program) linted.lints.items
    → All (λ p. p < point_count program) (behind_first (uses_told telling program linted variable))
later_below telling program linted variable all =
    later_placed (point_count program) (uses_told telling program linted variable) (all_placed (point_count program) telling program variable linted.lints.items all)
