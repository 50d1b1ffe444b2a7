-- What sets say of points behind steps and calls, and of procedures that are called
use Rattle.std.proofs.Common.{◌≡◌, ◌∙◌, ◌<◌, ◌⊎◌, ℕ, Bool, true, false, List, Option, Some, None, length, slice_index_or}
use Rattle.std.proofs.Common.{nat_eq, inl, inr, refl, sym, ap, subst, arith}
use Rattle.std.specs.Prelude.{IfOk}
use Rattle.std.proofs.Common.{Result, Ok, Err}
use native.Mathlib.Decide.{ℕ_discrete}
use mathlib.Core.Logic.{dite}
use Rattle.std.proofs.lemmas.Option.{slice_get-get_or}
use Rattle.flow_graph.specs.Analyses.{IsInTable}
use Rattle.flow_graph.specs.Paths.{IsEdge}
use Rattle.flow_graph.specs.Points.{point_count, procedure_at}
use Rattle.flow_graph.specs.Universes.{bits, evaluated_at}
use Rattle.flow_graph.specs.WellFormed.{IsWellFormed}
use Rattle.flow_graph.specs.declared.analysis.Analysis.TheVariants.{Busy}
use Rattle.flow_graph.specs.declared.edge.Edge.TheVariants.{Step}
use Rattle.flow_graph.proofs.graphs.MayForms.{must_tables_are_may_forms}
use Rattle.flow_links.specs.Shapes.{IsNumbered}
use Rattle.flow_regions.specs.code.Ways.{IsHang, IsHop, AreWays, IsTree, begins, by_call, by_site, by_step, is_root, point_in, procedure_in}
use Rattle.flow_regions.specs.declared.way.Branch.{Branch}
use Rattle.flow_regions.specs.declared.way.Hang.{Hang}
use Rattle.flow_regions.specs.declared.way.Hang.TheVariants.{Root, Call}
use Rattle.flow_regions.specs.declared.way.Hop.{Hop}
use Rattle.flow_regions.specs.declared.way.Hop.TheVariants.{Begins, Passes, Steps}
use Rattle.flow_regions.specs.declared.way.Way.{Way}
use Rattle.flow_regions.proofs.witnesses.Reaching.{IsCalled, IsSite, branch_is_entered, called, site_of, way_is_reached}
use Rattle.gen_kill.specs.Selections.{all_bits}
use Rattle.gen_kill.specs.code.Effects.{marks}
use Rattle.gen_kill.proofs.bits.OwnBits.{expression_is_own}
use Rattle.summary_equations.specs.Equations.{Brought, Entered, Generated, HasFlag, Preserved, Reached}
use Rattle.summary_equations.specs.Equations.{brought_by_boundary, brought_where_generated, brought_where_preserved, generated_before_call}
use Rattle.summary_equations.specs.Equations.{generated_before_step, generated_by_callee, generated_by_step, preserved_at_entry, preserved_by_call}
use Rattle.summary_equations.specs.Equations.{preserved_by_step}
use Rattle.summary_equations.proofs.paths.Meet.{solution_is_meet}
use Rattle.busy_bounds.specs.code.Kept.{ArePointSets, AreProcedureSets, IsLeftAt, IsPointSet, IsProcedureSet, IsStepped, busy_shape, busy_transfer, reversed_program}
use Rattle.busy_bounds.specs.code.Sets.{Grows, IsIn, Joins}
use Rattle.busy_bounds.specs.declared.bound.Bound.{Bound}
use Rattle.busy_bounds.specs.declared.bound.Bound.TheVariants.{Unknown, Among}
use Rattle.busy_bounds.proofs.sets_left.Growing.{in_grown, there_grown}
use Rattle.tac_program.specs.Programs.{Program}

kill_is : (program : Program) (bit x y : ℕ) → (busy_transfer program bit).kill x y ≡ marks (evaluated_at program y) bit
kill_is program bit x y = sym (expression_is_own program y bit)

marked : (o : Option ℕ) (bit : ℕ) → marks o bit ≡ true → o ≡ Some bit
marked None bit is = absurd (cc is)
marked (Some m) bit is =
    let eq : nat_eq bit m ≡ true = is in
    let same : m ≡ bit = grind (arith, eq) in
    ap (λ (n : ℕ). Some n) same

pub on_ok : {T E : Type 0} (r : Result T E) (P Q : T → Type 0) → ((value : T) → P value → Q value) → IfOk r P → IfOk r Q
on_ok (Ok value) P Q f p = f value p
on_ok (Err error) P Q f p = tt

pub point_set_grown : (program : Program) (old new : List ℕ) (x : ℕ) (bound : Bound) → Grows old new → IsPointSet program old x bound
    → IsPointSet program new x bound
point_set_grown program old new x bound grows set = record {
  there = there_grown old new bound set.there grows;
  reached = set.reached;
  left = λ bit low. elim (set.left bit low) [
    | inl is ↦ inl (in_grown old new bound bit set.there grows is)
    | inr left ↦ inr left
  ];
}

pub procedure_set_grown : (program : Program) (old new : List ℕ) (p : ℕ) (bound : Bound) → Grows old new → IsProcedureSet program old p bound
    → IsProcedureSet program new p bound
procedure_set_grown program old new p bound grows set = record {
  there = there_grown old new bound set.there grows;
  entered = set.entered;
  left = λ bit low. elim (set.left bit low) [
    | inl is ↦ inl (in_grown old new bound bit set.there grows is)
    | inr left ↦ inr left
  ];
}

-- behind a step
pub behind_step : (program : Program) (x y : ℕ) (old new : List ℕ) (bound stepped : Bound) → IsEdge (busy_shape program) (Step x y)
    → Reached (busy_shape program) x → Reached (busy_shape program) y
    → IsPointSet program old x bound → IsStepped (all_bits program Busy) y old new bound stepped → IsPointSet program new y stepped
behind_step program x y old new bound stepped edge at_x at_y set is = record {
  there = is.there;
  reached = inr at_y;
  left = λ bit low. elim (set.left bit low) [
    | inl has ↦ elim (is.has bit has) [
      | inl has ↦ inl has
      | inr gens ↦ inr (inr (generated_by_step x y edge at_x gens))
    ]
    | inr left ↦ goes bit left ((busy_transfer program bit).kill x y) refl
  ];
}
  where
    goes : (bit : ℕ) → IsLeftAt program x bit → (b : Bool) → (busy_transfer program bit).kill x y ≡ b
        → IsIn new stepped bit ⊎ IsLeftAt program y bit
    goes bit left true kills = inl (is.evaluated bit (marked (evaluated_at program y) bit (sym (kill_is program bit x y) ∙ kills)))
    goes bit (inl kept) false kills = inr (inl (preserved_by_step x y edge at_x kept kills))
    goes bit (inr made) false kills = inr (inr (generated_before_step x y edge at_x made kills))

pub step_before : (program : Program) (ways : List Way) (i j : ℕ) → IsHop (reversed_program program) ways i (point_in ways i) (Steps j) → j < i
step_before program ways i j (by_step _ before edge) = before

pub exit_there : (program : Program) (ways : List Way) (i j e : ℕ) → IsHop (reversed_program program) ways i (point_in ways i) (Passes j e)
    → (j < i) × (e < i)
exit_there program ways i j e (by_call _ _ before exit call) = (before, exit)

module _ (program : Program) (numbered : IsNumbered (busy_shape program) true (point_count program)) (ways : List Way)
    (are : AreWays (reversed_program program) ways) where
  reached : (i : ℕ) → i < length ways → Reached (busy_shape program) (point_in ways i)
  reached = way_is_reached (reversed_program program) (point_count program) numbered ways are

  pub hop_here : (i : ℕ) → i < length ways → (hop : Hop) → (slice_index_or ways i (record { point = 0; hop = Begins })).hop ≡ hop
      → IsHop (reversed_program program) ways i (point_in ways i) hop
  hop_here i low hop is =
      subst (IsHop (reversed_program program) ways i (point_in ways i)) is (are i _ (slice_get-get_or ways i (record { point = 0; hop = Begins }) low))

  pub way_there : (i : ℕ) → i < length ways → (hop : Hop) → IsHop (reversed_program program) ways i (point_in ways i) hop
      → point_in ways i < point_count program
  way_there i low Begins (begins p there entry) = subst (λ x. x < point_count program) entry (numbered.entry_in_range p there)
  way_there i low (Steps j) (by_step _ before edge) = (numbered.edge_in_range _ edge).1
  way_there i low (Passes j e) (by_call _ _ before exit call) =
      let is = called (reversed_program program) (point_count program) numbered (point_in ways j) (record { exit = point_in ways e; after = point_in ways i })
      call in
      (numbered.edge_in_range _ is.return).1

  pub before_there : (i j : ℕ) → i < length ways → j < i → point_in ways j < point_count program
  before_there i j low before =
      let at : j < length ways = omega (arith, low, before) in
      way_there j at _ (hop_here j at _ refl)

  pub at_entry : (i : ℕ) (items : List ℕ) → i < length ways → IsHop (reversed_program program) ways i (point_in ways i) Begins
      → IsPointSet program items (point_in ways i) (Among 0 0)
  at_entry i items low (begins p there entry) = record {
    there = omega arith;
    reached = inr (reached i low);
    left = λ bit small. inr (inl (subst (Preserved (busy_shape program) (busy_transfer program bit).kill) entry (preserved_at_entry p there)));
  }

  pub by_one_step : (i j : ℕ) (old new : List ℕ) (bound stepped : Bound) → i < length ways
      → IsHop (reversed_program program) ways i (point_in ways i) (Steps j)
      → IsPointSet program old (point_in ways j) bound → IsStepped (all_bits program Busy) (point_in ways i) old new bound stepped
      → IsPointSet program new (point_in ways i) stepped
  by_one_step i j old new bound stepped low (by_step _ before edge) set is =
      behind_step program (point_in ways j) (point_in ways i) old new bound stepped edge (reached j (omega (arith, low, before))) (reached i low) set is

  pub by_one_call : (i j e : ℕ) (old new : List ℕ) (first second joined : Bound) → i < length ways
      → IsHop (reversed_program program) ways i (point_in ways i) (Passes j e)
      → IsPointSet program old (point_in ways j) first → IsPointSet program old (point_in ways e) second
      → Joins old new first second joined
      → IsPointSet program new (point_in ways i) joined
  by_one_call i j e old new first second joined low (by_call _ _ before exit call) here through joins = record {
    there = joins.there;
    reached = inr (reached i low);
    left = λ bit small. elim (here.left bit small) [
      | inl has ↦ inl (joins.has_first bit has)
      | inr left ↦ elim (through.left bit small) [
        | inl has ↦ inl (joins.has_second bit has)
        | inr kept ↦ inr (goes bit left kept)
      ]
    ];
  }
    where
      is : IsCalled (reversed_program program) (point_count program) numbered (point_in ways j) (record { exit = point_in ways e; after = point_in ways i })
      is = called (reversed_program program) (point_count program) numbered (point_in ways j)
          (record { exit = point_in ways e; after = point_in ways i }) call

      at_j : Reached (busy_shape program) (point_in ways j)
      at_j = reached j (omega (arith, low, before))

      at_exit : Reached (busy_shape program) ((busy_shape program).exit is.callee)
      at_exit = subst (Reached (busy_shape program)) is.exit_is (reached e (omega (arith, low, exit)))

      goes : (bit : ℕ) → IsLeftAt program (point_in ways j) bit → IsLeftAt program (point_in ways e) bit → IsLeftAt program (point_in ways i) bit
      goes bit left (inr made) =
          inr (generated_by_callee is.site (point_in ways j) is.callee (point_in ways i) is.call is.return at_j at_exit
          (subst (Generated (busy_shape program) (busy_transfer program bit)) is.exit_is made))
      goes bit (inl kept) (inl keeps) =
          inl (preserved_by_call is.site (point_in ways j) is.callee (point_in ways i) is.call is.return at_j at_exit kept
          (subst (Preserved (busy_shape program) (busy_transfer program bit).kill) is.exit_is keeps))
      goes bit (inr made) (inl keeps) =
          inr (generated_before_call is.site (point_in ways j) is.callee (point_in ways i) is.call is.return at_j at_exit made
          (subst (Preserved (busy_shape program) (busy_transfer program bit).kill) is.exit_is keeps))

  module _ (tree : List Branch) (is_tree : IsTree (reversed_program program) ways tree) where
    entered : (i : ℕ) → i < length tree → Entered (busy_shape program) (procedure_in tree i)
    entered = branch_is_entered (reversed_program program) (point_count program) numbered ways are tree is_tree

    pub hang_here : (i : ℕ) → i < length tree → (hang : Hang) → (slice_index_or tree i (record { procedure = 0; hang = Root })).hang ≡ hang
        → IsHang (reversed_program program) ways tree i (procedure_in tree i) hang
    hang_here i low hang is =
        subst (IsHang (reversed_program program) ways tree i (procedure_in tree i)) is
        (is_tree i _ (slice_get-get_or tree i (record { procedure = 0; hang = Root }) low))

    pub caller_there : (i j w : ℕ) → i < length tree → IsHang (reversed_program program) ways tree i (procedure_in tree i) (Call j w)
        → (procedure_in tree j < (busy_shape program).procedures) × (point_in ways w < point_count program)
    caller_there i j w low (by_site _ _ less way site) =
        let is = site_of (reversed_program program) (point_count program) numbered (procedure_in tree j)
        (record { point = point_in ways w; callee = procedure_in tree i }) site in
        let there = way_there w way _ (hop_here w way _ refl) in
        (subst (λ p. p < (busy_shape program).procedures) is.in_it (numbered.procedure_in_range (point_in ways w) there), there)

    pub at_root : (i : ℕ) (items : List ℕ) → i < length tree → IsHang (reversed_program program) ways tree i (procedure_in tree i) Root
        → IsProcedureSet program items (procedure_in tree i) (Among 0 0)
    at_root i items low (is_root same) = record {
      there = omega arith;
      entered = inr (entered i low);
      left = λ bit small. inr (subst (Brought (busy_shape program) (busy_transfer program bit)) (sym same) (brought_by_boundary refl));
    }

    pub by_site_called : (i j w : ℕ) (old new : List ℕ) (first second joined : Bound) → i < length tree
        → IsHang (reversed_program program) ways tree i (procedure_in tree i) (Call j w)
        → IsProcedureSet program old (procedure_in tree j) first → IsPointSet program old (point_in ways w) second
        → Joins old new first second joined
        → IsProcedureSet program new (procedure_in tree i) joined
    by_site_called i j w old new first second joined low (by_site _ _ less way site) above here joins = record {
      there = joins.there;
      entered = inr (entered i low);
      left = λ bit small. elim (above.left bit small) [
        | inl has ↦ inl (joins.has_first bit has)
        | inr brought ↦ elim (here.left bit small) [
          | inl has ↦ inl (joins.has_second bit has)
          | inr left ↦ inr (goes bit brought left)
        ]
      ];
    }
      where
        is : IsSite (reversed_program program) (point_count program) numbered (procedure_in tree j)
            (record { point = point_in ways w; callee = procedure_in tree i })
        is = site_of (reversed_program program) (point_count program) numbered (procedure_in tree j)
            (record { point = point_in ways w; callee = procedure_in tree i }) site

        in_it : Entered (busy_shape program) ((busy_shape program).procedure_of (point_in ways w))
        in_it = subst (Entered (busy_shape program)) (sym is.in_it) (entered j (omega (arith, less, low)))

        goes : (bit : ℕ) → Brought (busy_shape program) (busy_transfer program bit) (procedure_in tree j) → IsLeftAt program (point_in ways w) bit
            → Brought (busy_shape program) (busy_transfer program bit) (procedure_in tree i)
        goes bit brought (inr made) = brought_where_generated is.site (point_in ways w) (procedure_in tree i) is.call in_it (reached w way) made
        goes bit brought (inl kept) =
            brought_where_preserved is.site (point_in ways w) (procedure_in tree i) is.call in_it (reached w way)
            (subst (Brought (busy_shape program) (busy_transfer program bit)) (sym is.in_it) brought) kept

-- one set more
pub points_more : (program : Program) (old new : List ℕ) (points put : List Bound) (x : ℕ) (bound : Bound) → Grows old new
    → ArePointSets program old points → IsPointSet program new x bound → length put ≡ length points
    → (x < length points → slice_index_or put x Unknown ≡ bound)
    → ((y : ℕ) → ¬ (y ≡ x) → slice_index_or put y Unknown ≡ slice_index_or points y Unknown)
    → ArePointSets program new put
points_more program old new points put x bound grows before set count here others = record {
  count = count ∙ before.count;
  each = λ y low. dite (ℕ_discrete y x)
      (λ same.
      subst (λ (b : Bound). IsPointSet program new y b)
      (sym (ap (λ z. slice_index_or put z Unknown) same ∙ here (omega (arith, low, same, before.count))))
      (subst (λ z. IsPointSet program new z bound) (sym same) set))
      (λ other.
      subst (λ (b : Bound). IsPointSet program new y b) (sym (others y other))
      (point_set_grown program old new y (slice_index_or points y Unknown) grows (before.each y low)));
}

pub points_grown : (program : Program) (old new : List ℕ) (points : List Bound) → Grows old new → ArePointSets program old points
    → ArePointSets program new points
points_grown program old new points grows before = record {
  count = before.count;
  each = λ x low. point_set_grown program old new x (slice_index_or points x Unknown) grows (before.each x low);
}

pub procedures_more : (program : Program) (old new : List ℕ) (procedures put : List Bound) (p : ℕ) (bound : Bound) → Grows old new
    → AreProcedureSets program old procedures → IsProcedureSet program new p bound → length put ≡ length procedures
    → (p < length procedures → slice_index_or put p Unknown ≡ bound)
    → ((q : ℕ) → ¬ (q ≡ p) → slice_index_or put q Unknown ≡ slice_index_or procedures q Unknown)
    → AreProcedureSets program new put
procedures_more program old new procedures put p bound grows before set count here others = record {
  count = count ∙ before.count;
  each = λ q low. dite (ℕ_discrete q p)
      (λ same.
      subst (λ (b : Bound). IsProcedureSet program new q b)
      (sym (ap (λ z. slice_index_or put z Unknown) same ∙ here (omega (arith, low, same, before.count))))
      (subst (λ z. IsProcedureSet program new z bound) (sym same) set))
      (λ other.
      subst (λ (b : Bound). IsProcedureSet program new q b) (sym (others q other))
      (procedure_set_grown program old new q (slice_index_or procedures q Unknown) grows (before.each q low)));
}

-- no set is known yet
pub none_known : (program : Program) (items : List ℕ) (points : List Bound) → length points ≡ point_count program
    → ((x : ℕ) → slice_index_or points x Unknown ≡ Unknown) → ArePointSets program items points
none_known program items points count each = record {
  count = count;
  each = λ x low. subst (λ (b : Bound). IsPointSet program items x b) (sym (each x))
      (record { there = tt; reached = inl refl; left = λ bit small. inl tt });
}

pub none_known_of : (program : Program) (items : List ℕ) (procedures : List Bound) → length procedures ≡ (busy_shape program).procedures
    → ((p : ℕ) → slice_index_or procedures p Unknown ≡ Unknown) → AreProcedureSets program items procedures
none_known_of program items procedures count each = record {
  count = count;
  each = λ p low. subst (λ (b : Bound). IsProcedureSet program items p b) (sym (each p))
      (record { there = tt; entered = inl refl; left = λ bit small. inl tt });
}

-- an expression that is in neither set is not very busy
pub in_one_of : (program : Program) (items : List ℕ) (x bit : ℕ) (here brought : Bound) → IsWellFormed (busy_shape program) → bit < bits program Busy
    → IsPointSet program items x here → IsProcedureSet program items (procedure_at program x) brought
    → IsInTable program Busy x bit → IsIn items here bit ⊎ IsIn items brought bit
in_one_of program items x bit here brought formed low set above table = elim set.reached [
  | inl unknown ↦ inl (subst (λ (b : Bound). IsIn items b bit) (sym unknown) tt)
  | inr at_x ↦ elim above.entered [
    | inl unknown ↦ inr (subst (λ (b : Bound). IsIn items b bit) (sym unknown) tt)
    | inr entered ↦ elim (set.left bit low) [
      | inl has ↦ inl has
      | inr left ↦ elim (above.left bit low) [
        | inl has ↦ inr has
        | inr comes ↦ absurd (no_path (entered, at_x) left comes)
      ]
    ]
  ]
]
  where
    no_path : HasFlag (busy_shape program) x → IsLeftAt program x bit → Brought (busy_shape program) (busy_transfer program bit) (procedure_at program x) → ⊥
    no_path flag left comes =
        (must_tables_are_may_forms program Busy x bit refl).0 table
        ((solution_is_meet (busy_shape program) (busy_transfer program bit) x formed).1.0 (flag, which left comes))
      where
        which : IsLeftAt program x bit → Brought (busy_shape program) (busy_transfer program bit) (procedure_at program x)
            → Generated (busy_shape program) (busy_transfer program bit) x
            ⊎ (Brought (busy_shape program) (busy_transfer program bit) ((busy_shape program).procedure_of x)
            × Preserved (busy_shape program) (busy_transfer program bit).kill x)
        which (inr made) comes = inl made
        which (inl kept) comes = inr (comes, kept)
