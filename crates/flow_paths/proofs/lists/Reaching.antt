-- Which uses are told, and that each has its path
use Rattle.std.proofs.Common.{◌≡◌, ◌⊎◌, ◌∙◌, ℕ, zero, suc, ◌+◌, ◌<◌, ◌≤◌, Bool, true, false, ◌&&◌, List, [], ◌∷◌, ◌++◌, length, map, flat_map}
use Rattle.std.proofs.Common.{Option, Some, None, if◌then◌else◌, inl, inr, sym, subst, arith}
use Rattle.std.specs.Prelude.{All, Contains}
use Rattle.std.specs.List.{filter, range_with_len}
use Rattle.std.proofs.lemmas.Bool.{and_parts, cases_lt}
use Rattle.std.proofs.lemmas.List.Concat.{flat_map-cons}
use Rattle.std.proofs.lemmas.List.Elements.{All-append, All-cons, All-contains, All-contains_itself, All-filter, All-map, All-nil, All-weaker}
use Rattle.std.proofs.lemmas.List.Elements.{Contains-append_left, Contains-append_right, filter_passes}
use Rattle.flow_graph.specs.Points.{kind_at, point_count}
use Rattle.flow_graph.specs.Transfers.{reads}
use Rattle.flow_reports.specs.Reports.{IsKnowledge, Knowledge, busy_at, computed_at, dead_at, remarks_at, remarks_when_reached, unset_at}
use Rattle.flow_reports.specs.Uses.{unset_uses, unset_uses_at, uses_of}
use Rattle.flow_reports.specs.code.Findings.{AreFindings, TellDoubtful, knowledge_of}
use Rattle.flow_reports.specs.declared.findings.Findings.{Findings}
use Rattle.flow_reports.specs.declared.remark.Remark.{Remark}
use Rattle.flow_reports.specs.declared.remark.Remark.TheVariants.{NeverReached, Unset, Computed, VeryBusy, Dead}
use Rattle.flow_reports.specs.declared.unset.UnsetUse.{UnsetUse}
use Rattle.flow_reports.proofs.knowledge.KnownReports.{Agree, agrees, same_unset}
use Rattle.report_answers.proofs.queries.Statements.{variables_have_dummies}
use Rattle.tac_program.specs.Programs.{Program}
use Rattle.tac_program.specs.declared.program.StmtKind.{StmtKind}
use Rattle.flow_paths.specs.code.UnsetPaths.{IsUnsetUse}
use Rattle.flow_paths.proofs.lists.Placed.{contained}

-- what holds of each list of a range holds of all, and each of them is a part of all
pub all_of_range : {A : Type 0} (P : A → Type 0) (f : ℕ → List A) (a n : ℕ) → ((k : ℕ) → a ≤ k → k < a + n → All P (f k))
    → All P (flat_map f (range_with_len a n))
all_of_range P f a zero each = All-nil P
all_of_range P f a (suc n) each =
    let rest = all_of_range P f (a + 1) n (λ k from to. each k (omega (arith, from)) (omega (arith, to))) in
    subst (λ (xs : List _). All P xs) (sym (flat_map-cons f a (range_with_len (a + 1) n)))
    (All-append P (f a) (flat_map f (range_with_len (a + 1) n)) (each a (omega arith) (omega arith)) rest)

part_of_range : {A : Type 0} (f : ℕ → List A) (a n k : ℕ) (x : A) → a ≤ k → k < a + n → Contains (f k) x
    → Contains (flat_map f (range_with_len a n)) x
part_of_range f a zero k x low high has = absurd (let none : ⊥ = omega (arith, low, high) in none)
part_of_range f a (suc n) k x low high has =
    subst (λ (xs : List _). Contains xs x) (sym (flat_map-cons f a (range_with_len (a + 1) n)))
    (by_case (cases_lt a k) (λ above. part_of_range f (a + 1) n k x above (omega (arith, high)) has))
  where
    by_case : (a < k) ⊎ (k ≤ a) → (a + 1 ≤ k → Contains (flat_map f (range_with_len (a + 1) n)) x)
        → Contains (f a ++ flat_map f (range_with_len (a + 1) n)) x
    by_case (inl above) further =
        Contains-append_right (f a) (flat_map f (range_with_len (a + 1) n)) x (further (omega (arith, above)))
    by_case (inr below) further =
        let same : k ≡ a = omega (arith, low, below) in
        Contains-append_left (f a) (flat_map f (range_with_len (a + 1) n)) x (subst (λ (m : ℕ). Contains (f m) x) same has)

-- the numbers of a range are below its end
pub all_below : (a n limit : ℕ) → a + n ≤ limit → All (λ k. k < limit) (range_with_len a n)
all_below a zero limit less = All-nil (λ k. k < limit)
all_below a (suc n) limit less =
    All-cons (λ k. k < limit) a (range_with_len (a + 1) n) (omega (arith, less)) (all_below (a + 1) n limit (omega (arith, less)))

both : {A : Type 0} (P Q : A → Type 0) (xs : List A) → All P xs → All Q xs → All (λ x. P x × Q x) xs
both P Q xs one other = λ k d below. (one k d below, other k d below)

module _ (found : Findings) (are : AreFindings found) (doubts : TellDoubtful found.graph.now found.doubtful.items) (known : Knowledge)
    (is : IsKnowledge found.graph.now known) where
  agree : Agree found.graph.now (knowledge_of found) known
  agree = agrees found are known is doubts

  -- the uses at a point
  unset_reach : (point : ℕ) → point < point_count found.graph.now
      → All (IsUnsetUse found.graph.now) (uses_of point (unset_at found.graph.now (knowledge_of found) point))
  unset_reach point below =
      let program : Program = found.graph.now in
      let test : ℕ → Bool = λ v. reads program point v && (knowledge_of found).reach.contains point v in
      let numbers : List ℕ = range_with_len 0 (length program.variable_names) in
      let make : ℕ → UnsetUse = λ v. record { point = point; variable = v } in
      let named : All (λ v. (test v ≡ true) × (v < length program.variable_names)) (filter test numbers) =
      both (λ v. test v ≡ true) (λ v. v < length program.variable_names) (filter test numbers) (filter_passes test numbers)
      (All-filter test (λ v. v < length program.variable_names) numbers (all_below 0 (length program.variable_names) (length program.variable_names) (omega arith))) in
      All-map (IsUnsetUse program) make (filter test numbers)
      (All-weaker (λ v. (test v ≡ true) × (v < length program.variable_names)) (λ v. IsUnsetUse program (make v))
      (λ v said.
      let parts = and_parts (reads program point v) ((knowledge_of found).reach.contains point v) said.0 in
      let has : known.reach.contains point v ≡ true = sym (agree.unset point v below parts.0) ∙ parts.1 in
      record {
        point = below;
        variable = said.1;
        reaches = (is.reach.sets point v below (omega (arith, said.1, variables_have_dummies program))).0 has;
      })
      (filter test numbers) named)

  uses_by : ℕ → Option StmtKind → Bool → List UnsetUse
  uses_by point o b = elim o [
    | Some statement ↦ if b then uses_of point (unset_at found.graph.now (knowledge_of found) point) else []
    | None ↦ []
  ]

  uses_reach : (point : ℕ) → point < point_count found.graph.now → (o : Option StmtKind) (b : Bool) → All (IsUnsetUse found.graph.now) (uses_by point o b)
  unfolding uses_by
  uses_reach point below None b = All-nil (IsUnsetUse found.graph.now)
  uses_reach point below (Some kind) true = unset_reach point below
  uses_reach point below (Some kind) false = All-nil (IsUnsetUse found.graph.now)

  -- Each use that is told is one that some valid path reaches.
  pub uses_are : (first n : ℕ) → first + n ≤ point_count found.graph.now
      → All (IsUnsetUse found.graph.now) (unset_uses found.graph.now (knowledge_of found) first n)
  unfolding uses_by
  uses_are first n within =
      all_of_range (IsUnsetUse found.graph.now) (unset_uses_at found.graph.now (knowledge_of found)) first n
      (λ point from to. uses_reach point (omega (arith, to, within)) (kind_at found.graph.now point) ((knowledge_of found).reach.has_path point))

  -- what a remark tells of the uses
  Tells : ℕ → List UnsetUse → Remark → Type 0
  Tells point uses NeverReached = Unit {0}
  Tells point uses (Unset v) = Contains uses (record { point = point; variable = v })
  Tells point uses (Computed bit) = Unit {0}
  Tells point uses (VeryBusy bit) = Unit {0}
  Tells point uses (Dead v) = Unit {0}

  told_when_reached : (point : ℕ)
      → All (Tells point (uses_of point (unset_at found.graph.now known point))) (remarks_when_reached found.graph.now known point)
  unfolding Tells
  told_when_reached point =
      let program : Program = found.graph.now in
      let uses : List UnsetUse = uses_of point (unset_at program known point) in
      let unset : List Remark = map (λ v. Unset v) (unset_at program known point) in
      let computed : List Remark = map (λ bit. Computed bit) (computed_at program known point) in
      let busy : List Remark = map (λ bit. VeryBusy bit) (busy_at program known point) in
      let dead : List Remark = map (λ v. Dead v) (dead_at program known point) in
      let make : ℕ → UnsetUse = λ v. record { point = point; variable = v } in
      let first : All (Tells point uses) unset =
      All-map (Tells point uses) (λ v. Unset v) (unset_at program known point)
      (All-weaker (Contains (unset_at program known point)) (λ v. Contains uses (make v)) (λ v has. contained make (unset_at program known point) v has)
      (unset_at program known point) (All-contains_itself (unset_at program known point))) in
      All-append (Tells point uses) (unset ++ computed ++ busy) dead
      (All-append (Tells point uses) (unset ++ computed) busy
      (All-append (Tells point uses) unset computed first
      (All-map (Tells point uses) (λ bit. Computed bit) (computed_at program known point) (λ k d below. tt)))
      (All-map (Tells point uses) (λ bit. VeryBusy bit) (busy_at program known point) (λ k d below. tt)))
      (All-map (Tells point uses) (λ v. Dead v) (dead_at program known point) (λ k d below. tt))

  told_by : (point : ℕ) (o : Option StmtKind) (b : Bool)
      → All (Tells point (elim o [ Some s ↦ if b then uses_of point (unset_at found.graph.now known point) else [] | None ↦ [] ]))
      (elim o [ Some s ↦ if b then remarks_when_reached found.graph.now known point else NeverReached ∷ [] | None ↦ [] ])
  unfolding Tells
  told_by point None b = All-nil (Tells point [])
  told_by point (Some kind) true = told_when_reached point
  told_by point (Some kind) false =
      let none : Tells point [] NeverReached = tt {0} in
      All-cons (Tells point []) NeverReached [] none (All-nil (Tells point []))

  pub same_uses : (point : ℕ) → point < point_count found.graph.now
      → unset_uses_at found.graph.now (knowledge_of found) point ≡ unset_uses_at found.graph.now known point
  same_uses point below = λ i. elim (kind_at found.graph.now point) [
    | Some statement ↦ if agree.flags point below i
        then uses_of point (same_unset found.graph.now are.sound (knowledge_of found) known agree point below i) else []
    | None ↦ []
  ]

  -- Each remark that a variable may not be set is of a use that is told.
  pub use_is_told : (first n point variable : ℕ) → first + n ≤ point_count found.graph.now → first ≤ point → point < first + n
      → Contains (remarks_at found.graph.now known point) (Unset variable)
      → Contains (unset_uses found.graph.now (knowledge_of found) first n) (record { point = point; variable = variable })
  unfolding Tells
  use_is_told first n point variable within low high said =
      let program : Program = found.graph.now in
      let below : point < point_count program = omega (arith, high, within) in
      let told : Contains (unset_uses_at program known point) (record { point = point; variable = variable }) =
      All-contains (Tells point (unset_uses_at program known point)) (remarks_at program known point) (Unset variable)
      (told_by point (kind_at program point) (known.reach.has_path point)) said in
      part_of_range (unset_uses_at program (knowledge_of found)) first n point _ low high
      (subst (λ (us : List UnsetUse). Contains us (record { point = point; variable = variable })) (sym (same_uses point below)) told)
