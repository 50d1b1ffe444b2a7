-- Which assignments are held back by doubt
use Rattle.std.proofs.Common.{◌≡◌, ◌∙◌, ℕ, suc, ◌+◌, ◌-◌, ◌≤◌, Bool, true, false, not, ◌&&◌, List, [], ◌∷◌, ◌++◌, map, flat_map}
use Rattle.std.proofs.Common.{append-nil, get_or, option_and_then, Option, Some, None, if◌then◌else◌, refl, sym, ap, subst, arith}
use Rattle.std.specs.Prelude.{All}
use Rattle.std.specs.List.{range_with_len}
use Rattle.std.proofs.lemmas.Grind.{flat_map-append}
use Rattle.std.proofs.lemmas.List.{map-append}
use Rattle.std.proofs.lemmas.List.Elements.{All-push}
use Rattle.flow_graph.specs.Points.{kind_at}
use Rattle.flow_graph.specs.Universes.{defined_variable}
use Rattle.flow_reports.specs.Reports.{Knowledge, dead_at}
use Rattle.report_answers.specs.Statements.{assigned}
use Rattle.flow_reports.proofs.knowledge.RemarkLines.{dead_is, none_dead, some_if}
use Rattle.flow_texts.proofs.sets.RangeLines.{range_split}
use Rattle.tac_program.specs.Programs.{Program}
use Rattle.tac_program.specs.declared.program.StmtKind.{StmtKind}
use Rattle.tac_program.specs.declared.program.StmtKind.TheVariants as kind
use Rattle.text_pieces.specs.code.Lists.{some_stand}
use Rattle.flow_paths.specs.Doubts.{Assignment, assignment_of, doubted_at}
use Rattle.flow_paths.specs.code.Doubted.{listed, with_doubt}
use Rattle.flow_paths.specs.declared.doubts.Doubt.{Doubt}

-- the variable that an assignment sets is the one that it defines
assigned_is_defined : (k : StmtKind) (v : ℕ) → assigned k ≡ Some v → defined_variable k ≡ Some v
assigned_is_defined (kind.Copy t y) v sets = sets
assigned_is_defined (kind.Unary t o y) v sets = sets
assigned_is_defined (kind.Binary o t y z) v sets = sets
assigned_is_defined (kind.Goto l) v sets = absurd (cc sets)
assigned_is_defined (kind.If y l) v sets = absurd (cc sets)
assigned_is_defined (kind.IfFalse y l) v sets = absurd (cc sets)
assigned_is_defined (kind.IfCompare o l y z) v sets = absurd (cc sets)
assigned_is_defined (kind.Call ps) v sets = absurd (cc sets)
assigned_is_defined kind.Return v sets = absurd (cc sets)
assigned_is_defined (kind.Read t) v sets = absurd (cc sets)
assigned_is_defined (kind.Print y) v sets = absurd (cc sets)
assigned_is_defined kind.Skip v sets = absurd (cc sets)

none_of : (h d : Bool) → (h && (d && false)) ≡ false
none_of true true = refl
none_of true false = refl
none_of false d = refl

module _ (program : Program) (known : Knowledge) (no : (p : ℕ) → known.doubtful p ≡ false) (doubtful : List Bool) (point : ℕ) where
  -- what holds back an assignment of a variable
  holds_back : ℕ → Bool
  holds_back v = known.reach.has_path point && (get_or doubtful (suc point) false && not (known.live.contains (suc point) v))

  doubted_by : Option ℕ → List ℕ
  doubted_by o = elim o [ Some v ↦ if holds_back v then v ∷ [] else [] | None ↦ [] ]

  doubted_of : (k : StmtKind) → kind_at program point ≡ Some k → doubted_at program (with_doubt known doubtful) point ≡ doubted_by (assigned k)
  unfolding doubted_by holds_back
  doubted_of k at = ap (λ (o : Option StmtKind). doubted_by (option_and_then assigned o)) at

  -- what is tested
  test : Bool
  test = known.reach.has_path point && (get_or doubtful (point + 1) false && some_stand (dead_at program known point))

  test_is : (k : StmtKind) (v : ℕ) → kind_at program point ≡ Some k → assigned k ≡ Some v → test ≡ holds_back v
  unfolding test holds_back
  test_is k v at sets =
      let next : point + 1 ≡ suc point = omega arith in
      let dead : some_stand (dead_at program known point) ≡ not (known.live.contains (suc point) v) =
      ap some_stand (dead_is program known point v k (not (known.doubtful (point + 1)) && not (known.live.contains (point + 1) v)) at sets refl)
      ∙ some_if (not (known.doubtful (point + 1)) && not (known.live.contains (point + 1) v)) v
      ∙ ap (λ d. not d && not (known.live.contains (point + 1) v)) (no (point + 1))
      ∙ ap (λ n. not (known.live.contains n v)) next in
      ap (λ s. known.reach.has_path point && (get_or doubtful (point + 1) false && s)) dead
      ∙ ap (λ n. known.reach.has_path point && (get_or doubtful n false && not (known.live.contains (suc point) v))) next

  no_test : (k : StmtKind) → kind_at program point ≡ Some k → assigned k ≡ None → test ≡ false
  unfolding test
  no_test k at sets =
      ap (λ (vs : List ℕ). known.reach.has_path point && (get_or doubtful (point + 1) false && some_stand vs)) (none_dead program known point k at sets)
      ∙ none_of (known.reach.has_path point) (get_or doubtful (point + 1) false)

  listed_if : (k : StmtKind) (v : ℕ) → assigned k ≡ Some v → (b : Bool)
      → listed (if b then defined_variable k else None) ≡ (if b then v ∷ [] else [])
  listed_if k v sets true = ap listed (assigned_is_defined k v sets)
  listed_if k v sets false = refl

  doubted_by_case : (k : StmtKind) → kind_at program point ≡ Some k → (o : Option ℕ) → assigned k ≡ o → (b : Bool) → b ≡ test
      → listed (if b then defined_variable k else None) ≡ doubted_by o
  unfolding doubted_by
  doubted_by_case k at None sets b is = ap (λ c. listed (if c then defined_variable k else None)) (is ∙ no_test k at sets)
  doubted_by_case k at (Some v) sets b is = listed_if k v sets b ∙ ap (λ c. if c then v ∷ [] else []) (is ∙ test_is k v at sets)

  -- the variable that is answered is the one that is held back, or none is
  pub doubted_is : (k : StmtKind) → kind_at program point ≡ Some k → (b : Bool)
      → b ≡ (known.reach.has_path point && (get_or doubtful (point + 1) false && some_stand (dead_at program known point)))
      → listed (if b then defined_variable k else None) ≡ doubted_at program (with_doubt known doubtful) point
  unfolding test
  doubted_is k at b is = doubted_by_case k at (assigned k) refl b is ∙ sym (doubted_of k at)

  -- at a procedure's end none is
  pub none_doubted : kind_at program point ≡ None → [] ≡ doubted_at program (with_doubt known doubtful) point
  unfolding doubted_by holds_back
  none_doubted at = sym (ap (λ (o : Option StmtKind). doubted_by (option_and_then assigned o)) at)

-- one doubt more
pub doubts_put : (old : List Assignment) (doubts new : List Doubt) (doubt : Doubt) → map assignment_of doubts ≡ old → new ≡ doubts ++ doubt ∷ []
    → map assignment_of new ≡ old ++ assignment_of doubt ∷ []
doubts_put old doubts new doubt before is =
    ap (map assignment_of) is ∙ map-append assignment_of doubts (doubt ∷ []) ∙ ap (λ xs. xs ++ assignment_of doubt ∷ []) before

pub all_put : (P : Doubt → Type 0) (doubts new : List Doubt) (doubt : Doubt) → new ≡ doubts ++ doubt ∷ [] → P doubt → All P doubts → All P new
all_put P doubts new doubt is one all = subst (λ (xs : List Doubt). All P xs) (sym is) (All-push P doubts doubt all one)

-- those of a point more
pub one_point_more : (at : ℕ → List Assignment) (first n : ℕ) → first ≤ n
    → flat_map at (range_with_len first (n - first)) ++ at n ≡ flat_map at (range_with_len first (n + 1 - first))
one_point_more at first n above =
    let here : first + (n - first) ≡ n = omega (arith, above) in
    let longer : n - first + 1 ≡ n + 1 - first = omega (arith, above) in
    ap (λ t. flat_map at (range_with_len first (n - first)) ++ t) (sym (append-nil (at n)))
    ∙ ap (λ m. flat_map at (range_with_len first (n - first)) ++ flat_map at (m ∷ [])) (sym here)
    ∙ sym (flat_map-append at (range_with_len first (n - first)) (range_with_len (first + (n - first)) 1))
    ∙ ap (flat_map at) (sym (range_split first (n - first) 1))
    ∙ ap (λ k. flat_map at (range_with_len first k)) longer
