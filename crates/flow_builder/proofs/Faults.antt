-- Why arrays make no program: from a procedure to all of them.
use Rattle.std.proofs.Common.{◌≡◌, ◌∙◌, ℕ, ◌+◌, ◌-◌, ◌<◌, ◌≤◌, List, Some, length, get_or, inl, inr, drop, take, slice_get, sym, ap, subst, arith}
use Rattle.std.specs.Prelude.{slice_index, slice_range, sum_by}
use Rattle.std.proofs.lemmas.List.{get_or-drop, get_or-take, length-drop, length-take}
use Rattle.std.proofs.lemmas.List.Sums.{sum_by-take-le}
use Rattle.std.proofs.lemmas.Option.{get_or_from_slice_get, slice_get-get_or, slice_get_within}
use Rattle.tac_program.specs.declared.limits.Limits.{Limits}
use Rattle.flow_builder.specs.Checks.{Fit, IsBadName, IsBadStatement, IsBuildFault, IsMisplaced, IsProcedureFault, IsProceduresFault}
use Rattle.flow_builder.specs.Checks.{IsSoundNumbers, IsTableFault, bad_name_of, first_label, first_statement, names_chosen}
use Rattle.flow_builder.specs.declared.arrays.Arrays.{Arrays}
use Rattle.flow_builder.specs.declared.arrays.BuiltProcedure.{BuiltProcedure}
use Rattle.flow_builder.specs.declared.arrays.BuiltStatement.{BuiltStatement}
use Rattle.flow_builder.specs.declared.building.Names.{Names}
use Rattle.flow_builder.specs.declared.building.Names.TheVariants.{Procedures, Variables, Labels}
use Rattle.flow_builder.specs.declared.fault.BuildFault.{BuildFault}
use Rattle.flow_builder.specs.declared.fault.BuildFault.TheVariants as fault
use Rattle.flow_builder.proofs.BuiltPrograms.{sum_more}

-- an element of a part is one of the whole
part_of_whole : {A : Type 0} (xs : List A) (a b i : ℕ) (x : A) → slice_get (slice_range xs a b) i ≡ Some x → slice_get xs (a + i) ≡ Some x
part_of_whole {A = A} xs a b i x is =
    let inside : i < length (slice_range xs a b) = slice_get_within (slice_range xs a b) i x is in
    let so_many = length-take (b - a) (drop a xs) in
    let left = length-drop a xs in
    let below : a + i < length xs = omega (arith, inside, so_many, left) in
    let here : get_or (slice_range xs a b) i x ≡ x = get_or_from_slice_get (slice_range xs a b) i x x is in
    let there : get_or (slice_range xs a b) i x ≡ get_or xs (a + i) x =
    get_or-take (b - a) (drop a xs) i x (omega (arith, inside, so_many)) ∙ get_or-drop a xs i x in
    slice_get-get_or xs (a + i) x below ∙ ap (λ (y : A). Some y) (sym there ∙ here)

-- a part's length
pub part_length : {A : Type 0} (xs : List A) (a k : ℕ) → a + k ≤ length xs → length (slice_range xs a (a + k)) ≡ k
part_length xs a k within = omega (arith, within, length-take ((a + k) - a) (drop a xs), length-drop a xs)

-- a label of a part is misplaced in the whole
place_in : (xs : List ℕ) (a b i : ℕ) → i < b - a → slice_index (slice_range xs a b) i ≡ slice_index xs (a + i)
place_in xs a b i below = get_or-take (b - a) (drop a xs) i 0 below ∙ get_or-drop a xs i 0

misplaced_in : (xs : List ℕ) (a b end i : ℕ) → i < b - a → IsMisplaced 0 end (slice_range xs a b) i → IsMisplaced a end xs (a + i)
misplaced_in xs a b end i below (inl behind) = inl (omega (arith, behind, place_in xs a b i below))
misplaced_in xs a b end i below (inr (later, falls)) =
    let ahead : a + (i - 1) ≡ a + i - 1 = omega (arith, later) in
    let there : slice_index (slice_range xs a b) (i - 1) ≡ slice_index xs (a + i - 1) =
    place_in xs a b (i - 1) (omega (arith, below)) ∙ ap (slice_index xs) ahead in
    inr (omega (arith, later), omega (arith, falls, there, place_in xs a b i below))

-- Procedures that have more statements, or labels, than there are do not fit.
pub too_many : {A : Type 0} (f : A → ℕ) (xs : List A) (n total : ℕ) (d : A) → n < length xs → total < sum_by f (take n xs) + f (get_or xs n d)
    → ¬ (sum_by f xs ≡ total)
too_many f xs n total d below more same = omega (arith, more, same, sum_more f xs n d below, sum_by-take-le f xs (n + 1))

module _ (variables procedures names : ℕ) (callees : List ℕ) (arrays : Arrays) (p st lb : ℕ) (d : BuiltProcedure) where
  -- why a procedure is not built is why all of them are not
  pub procedure_fault : (f : BuildFault) → p < length arrays.procedures.now → st ≡ first_statement arrays p → lb ≡ first_label arrays p
      → st + (get_or arrays.procedures.now p d).statements ≤ length arrays.statements.now
      → lb + (get_or arrays.procedures.now p d).labels ≤ length arrays.labels.now
      → callees ≡ arrays.callees.now → names ≡ length arrays.label_names.ends.now
      → IsProcedureFault variables procedures names callees
      (slice_range arrays.statements.now st (st + (get_or arrays.procedures.now p d).statements))
      (slice_range arrays.labels.now lb (lb + (get_or arrays.procedures.now p d).labels)) st lb f
      → IsProceduresFault variables procedures arrays f
  procedure_fault (fault.BadStatement n) below st_is lb_is st_in lb_in same named (i, s, at, number, unsound) =
      let b : BuiltProcedure = get_or arrays.procedures.now p d in
      let own : List BuiltStatement = slice_range arrays.statements.now st (st + b.statements) in
      let places : List ℕ = slice_range arrays.labels.now lb (lb + b.labels) in
      record {
        number = p;
        procedure = b;
        procedure_is = slice_get-get_or arrays.procedures.now p d below;
        from = omega (arith, number, st_is);
        until = omega (arith, number, st_is, slice_get_within own i s at, part_length arrays.statements.now st b.statements st_in);
        statement = s;
        statement_is = subst (λ (k : ℕ). slice_get arrays.statements.now k ≡ Some s) (sym number)
            (part_of_whole arrays.statements.now st (st + b.statements) i s at);
        unsound = λ sound. unsound
            (subst (λ (cs : List ℕ). IsSoundNumbers variables (length places) procedures cs s) (sym same)
            (subst (λ (k : ℕ). IsSoundNumbers variables k procedures arrays.callees.now s)
            (sym (part_length arrays.labels.now lb b.labels lb_in)) sound));
      }
  procedure_fault (fault.BadLabel n) below st_is lb_is st_in lb_in same named (i, low, number, misplaced) =
      let b : BuiltProcedure = get_or arrays.procedures.now p d in
      let places : List ℕ = slice_range arrays.labels.now lb (lb + b.labels) in
      let inside : i < b.labels = omega (arith, low, part_length arrays.labels.now lb b.labels lb_in) in
      let within : IsMisplaced 0 b.statements places i =
      subst (λ (end : ℕ). IsMisplaced 0 end places i) (part_length arrays.statements.now st b.statements st_in) misplaced in
      record {
        number = p;
        procedure = b;
        procedure_is = slice_get-get_or arrays.procedures.now p d below;
        from = omega (arith, number, lb_is);
        until = omega (arith, number, lb_is, inside);
        there = omega (arith, number, inside, lb_in);
        misplaced = subst (λ (k : ℕ). IsMisplaced (first_label arrays p) b.statements arrays.labels.now k) (sym number)
            (subst (λ (a : ℕ). IsMisplaced a b.statements arrays.labels.now (lb + i)) lb_is
            (misplaced_in arrays.labels.now lb (lb + b.labels) b.statements i (omega (arith, inside)) within));
      }
  procedure_fault fault.BadCounts below st_is lb_is st_in lb_in same named few = λ (fit : Fit arrays).
      omega (arith, few, named, part_length arrays.labels.now lb (get_or arrays.procedures.now p d).labels lb_in, fit.label_names p d below)
  procedure_fault fault.OutOfMemory below st_is lb_is st_in lb_in same named cause = tt
  procedure_fault (fault.BadProcedureName n) below st_is lb_is st_in lb_in same named cause = absurd cause
  procedure_fault (fault.BadVariableName n) below st_is lb_is st_in lb_in same named cause = absurd cause
  procedure_fault (fault.BadLabelName n) below st_is lb_is st_in lb_in same named cause = absurd cause
  procedure_fault fault.NoMain below st_is lb_is st_in lb_in same named cause = absurd cause
  procedure_fault fault.TooManyProcedures below st_is lb_is st_in lb_in same named cause = absurd cause
  procedure_fault fault.TooLong below st_is lb_is st_in lb_in same named cause = absurd cause

pub procedures_fault : (limits : Limits) (variables procedures : ℕ) (arrays : Arrays) (f : BuildFault)
    → variables ≡ length arrays.variable_names.ends.now → procedures ≡ length arrays.procedures.now
    → IsProceduresFault variables procedures arrays f → IsBuildFault limits arrays f
procedures_fault limits variables procedures arrays (fault.BadStatement n) vs ps cause =
    subst (λ v. IsBadStatement v (length arrays.procedures.now) arrays n) vs (subst (λ q. IsBadStatement variables q arrays n) ps cause)
procedures_fault limits variables procedures arrays (fault.BadLabel n) vs ps cause = cause
procedures_fault limits variables procedures arrays fault.BadCounts vs ps cause = cause
procedures_fault limits variables procedures arrays fault.OutOfMemory vs ps cause = tt
procedures_fault limits variables procedures arrays (fault.BadProcedureName n) vs ps cause = absurd cause
procedures_fault limits variables procedures arrays (fault.BadVariableName n) vs ps cause = absurd cause
procedures_fault limits variables procedures arrays (fault.BadLabelName n) vs ps cause = absurd cause
procedures_fault limits variables procedures arrays fault.NoMain vs ps cause = absurd cause
procedures_fault limits variables procedures arrays fault.TooManyProcedures vs ps cause = absurd cause
procedures_fault limits variables procedures arrays fault.TooLong vs ps cause = absurd cause

pub bad_name_fault : (which : Names) (arrays : Arrays) (n : ℕ) → IsBadName (names_chosen which arrays) n → IsTableFault arrays (bad_name_of which n)
bad_name_fault Procedures arrays n bad = bad
bad_name_fault Variables arrays n bad = bad
bad_name_fault Labels arrays n bad = bad
