-- What remarks are asked about is there
use Rattle.std.proofs.Common.{◌≡◌, ℕ, suc, ◌+◌, ◌<◌, Bool, true, false, List, [], ◌∷◌, ◌++◌, length, map, Option, Some, None}
use Rattle.std.proofs.Common.{if◌then◌else◌, not, ◌&&◌, unwrap_or, option_and_then, option_map, refl, subst, sym, arith}
use Rattle.std.specs.Prelude.{All}
use Rattle.std.specs.List.{range_with_len}
use Rattle.std.proofs.lemmas.List.Elements.{All-append, All-cons, All-filter, All-map, All-nil, All-weaker}
use Rattle.flow_graph.specs.Points.{kind_at, point_count}
use Rattle.flow_graph.specs.Transfers.{reads}
use Rattle.flow_graph.specs.Universes.{bits, evaluated_at}
use Rattle.flow_graph.specs.declared.analysis.Analysis.TheVariants.{Avail, Busy}
use Rattle.flow_graph.proofs.places.Standing.{stands}
use Rattle.flow_reports.specs.Listed.{placed_at, remarks_of}
use Rattle.flow_reports.specs.Reports.{Knowledge, busy_at, computed_at, dead_at, remarks_at, remarks_when_reached, unset_at}
use Rattle.report_answers.specs.Statements.{assigned, is_test}
use Rattle.flow_reports.specs.code.Findings.{IsRemarkIn}
use Rattle.flow_reports.specs.declared.listed.PlacedRemark.{PlacedRemark}
use Rattle.flow_reports.specs.declared.remark.Remark.{Remark}
use Rattle.flow_reports.specs.declared.remark.Remark.TheVariants.{NeverReached, Unset, Computed, VeryBusy, Dead}
use Rattle.report_answers.proofs.queries.Statements.{evaluated_there}
use Rattle.report_answers.proofs.queries.Statements.{assigned_there, next_below}
use Rattle.flow_texts.specs.Tables.{bits_at}
use Rattle.tac_program.specs.Programs.{Program}
use Rattle.tac_program.specs.Sound.{IsSound}
use Rattle.tac_program.specs.declared.program.StmtKind.{StmtKind}
use Rattle.flow_paths.specs.code.Arounds.{IsAskable}
use Rattle.flow_paths.proofs.lists.Reaching.{all_below, all_of_range}

one_if : (P : ℕ → Type 0) (b : Bool) (n : ℕ) → P n → All P (if b then n ∷ [] else [])
one_if P true n is = All-cons P n [] is (All-nil P)
one_if P false n is = All-nil P

all_if : (P : ℕ → Type 0) (b : Bool) (ns : List ℕ) → All P ns → All P (if b then ns else [])
all_if P true ns all = all
all_if P false ns all = All-nil P

module _ (program : Program) (sound : IsSound program) (known : Knowledge) (point : ℕ) (below : point < point_count program) where
  unset_named : All (λ v. v < length program.variable_names) (unset_at program known point)
  unset_named =
      All-filter (λ v. reads program point v && known.reach.contains point v) (λ v. v < length program.variable_names)
      (range_with_len 0 (length program.variable_names))
      (all_below 0 (length program.variable_names) (length program.variable_names) (omega arith))

  computed_by : Option ℕ → List ℕ
  computed_by o = elim o [ Some bit ↦ if known.avail.contains point bit then bit ∷ [] else [] | None ↦ [] ]

  computed_named_by : (o : Option ℕ) → evaluated_at program point ≡ o → All (λ bit. bit < bits program Avail) (computed_by o)
  unfolding computed_by
  computed_named_by None is = All-nil (λ bit. bit < bits program Avail)
  computed_named_by (Some bit) is =
      one_if (λ b. b < bits program Avail) (known.avail.contains point bit) bit (evaluated_there program point bit is)

  computed_named : All (λ bit. bit < bits program Avail) (computed_at program known point)
  unfolding computed_by
  computed_named = computed_named_by (evaluated_at program point) refl

  busy_named : All (λ bit. bit < bits program Busy) (busy_at program known point)
  busy_named =
      all_if (λ bit. bit < bits program Busy) (unwrap_or (option_map is_test (kind_at program point)) false && not (known.doubtful point))
      (bits_at program Busy known.busy point)
      (All-filter (known.busy.contains point) (λ bit. bit < bits program Busy) (range_with_len 0 (bits program Busy))
      (all_below 0 (bits program Busy) (bits program Busy) (omega arith)))

  dead_by : Option ℕ → List ℕ
  dead_by o = elim o [
    | Some variable ↦ if not (known.doubtful (suc point)) && not (known.live.contains (suc point) variable) then variable ∷ [] else []
    | None ↦ []
  ]

  dead_named_by : (k : StmtKind) → kind_at program point ≡ Some k → (o : Option ℕ) → assigned k ≡ o
      → All (λ v. v < length program.variable_names) (dead_by o)
  unfolding dead_by
  dead_named_by k at None is = All-nil (λ v. v < length program.variable_names)
  dead_named_by k at (Some v) is =
      one_if (λ w. w < length program.variable_names) (not (known.doubtful (suc point)) && not (known.live.contains (suc point) v)) v
      (assigned_there program point v k (stands program sound point k below at) is)

  dead_named : (k : StmtKind) → kind_at program point ≡ Some k → All (λ v. v < length program.variable_names) (dead_at program known point)
  unfolding dead_by
  dead_named k at =
      subst (λ (o : Option StmtKind). All (λ v. v < length program.variable_names) (dead_by (option_and_then assigned o))) (sym at)
      (dead_named_by k at (assigned k) refl)

  named_when_reached : (k : StmtKind) → kind_at program point ≡ Some k → All (IsRemarkIn program) (remarks_when_reached program known point)
  named_when_reached k at =
      let unset : List Remark = map (λ v. Unset v) (unset_at program known point) in
      let computed : List Remark = map (λ bit. Computed bit) (computed_at program known point) in
      let busy : List Remark = map (λ bit. VeryBusy bit) (busy_at program known point) in
      let dead : List Remark = map (λ v. Dead v) (dead_at program known point) in
      All-append (IsRemarkIn program) (unset ++ computed ++ busy) dead
      (All-append (IsRemarkIn program) (unset ++ computed) busy
      (All-append (IsRemarkIn program) unset computed
      (All-map (IsRemarkIn program) (λ v. Unset v) (unset_at program known point) unset_named)
      (All-map (IsRemarkIn program) (λ bit. Computed bit) (computed_at program known point) computed_named))
      (All-map (IsRemarkIn program) (λ bit. VeryBusy bit) (busy_at program known point) busy_named))
      (All-map (IsRemarkIn program) (λ v. Dead v) (dead_at program known point) (dead_named k at))

  place : Remark → PlacedRemark
  place remark = record { point = point; remark = remark }

  all_placed : (k : StmtKind) → kind_at program point ≡ Some k → (remarks : List Remark) → All (IsRemarkIn program) remarks
      → All (IsAskable program) (placed_at point remarks)
  unfolding place
  all_placed k at remarks named =
      let next : point + 1 < point_count program = next_below program point k (stands program sound point k below at) in
      All-map (IsAskable program) place remarks
      (All-weaker (IsRemarkIn program) (λ r. IsAskable program (place r)) (λ r is. record { next = next; named = is }) remarks named)

  askable_by : (o : Option StmtKind) → kind_at program point ≡ o → (b : Bool)
      → All (IsAskable program)
      (placed_at point (elim o [ Some s ↦ if b then remarks_when_reached program known point else NeverReached ∷ [] | None ↦ [] ]))
  askable_by None at b = All-nil (IsAskable program)
  askable_by (Some k) at true = all_placed k at (remarks_when_reached program known point) (named_when_reached k at)
  askable_by (Some k) at false =
      let named : IsRemarkIn program NeverReached = tt {0} in
      all_placed k at (NeverReached ∷ []) (All-cons (IsRemarkIn program) NeverReached [] named (All-nil (IsRemarkIn program)))

  askable_at : All (IsAskable program) (placed_at point (remarks_at program known point))
  askable_at = askable_by (kind_at program point) refl (known.reach.has_path point)

-- All remarks are askable.
pub all_askable : (program : Program) (sound : IsSound program) (known : Knowledge) → All (IsAskable program) (remarks_of program known)
all_askable program sound known =
    all_of_range (IsAskable program) (λ point. placed_at point (remarks_at program known point)) 0 (point_count program)
    (λ point from to. askable_at program sound known point (omega (arith, to)))
