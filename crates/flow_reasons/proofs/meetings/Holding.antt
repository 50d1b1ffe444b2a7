-- Which variables hold an expression's value
use Rattle.std.proofs.Common.{◌≡◌, ◌<◌, ◌↔◌, ◌||◌, ◌&&◌, not, ℕ, Bool, true, false, List, [], ◌∷◌, Contains, Option, Some, None, option_map, unwrap_or}
use Rattle.std.proofs.Common.{nat_eq, slice_get, get_or, ◌+◌, length, arith, refl, sym, ◌∙◌, ap, subst, inl, inr}
use Rattle.std.specs.List.{list_any}
use Rattle.std.proofs.lemmas.Bool.{cases_eq}
use Rattle.tac_program.specs.Programs.{Program}
use Rattle.tac_program.specs.Sound.{IsSound}
use Rattle.flow_graph.specs.Analyses.{shape_of}
use Rattle.flow_graph.specs.Paths.{Shape, Transfer, IsEdge, IsPath, SomePathHas, EveryPathHas, value_after}
use Rattle.flow_graph.specs.Points.{point_count}
use Rattle.flow_graph.specs.Reversals.{complemented_transfer}
use Rattle.flow_graph.specs.Transfers.{changes, evaluates, gens, kills, writes}
use Rattle.flow_graph.specs.Universes.{expressions}
use Rattle.flow_graph.specs.declared.expression.Expr.{Expr}
use Rattle.flow_graph.specs.declared.analysis.Analysis.TheVariants.{Avail}
use Rattle.flow_graph.specs.WellFormed.{AgreesOnSteps}
use Rattle.flow_graph.specs.declared.edge.Edge.{Edge}
use Rattle.flow_graph.specs.declared.edge.Edge.TheVariants.{Step, Call, Ret}
use Rattle.flow_graph.proofs.edges.EdgeLemmas.{any_of}
use Rattle.flow_graph.proofs.edges.SameEdges.{same_edges_same_paths}
use Rattle.flow_graph.proofs.lists.Membership.{Contains-first, Contains-later}
use Rattle.flow_graph.proofs.paths.Complement.{meets_complement}
use Rattle.flow_links.specs.Shapes.{LinkedProgram, directed_shape}
use Rattle.flow_why.specs.PointBits.{StatementBit, point_transfer}
use Rattle.flow_reasons.specs.Holders.{HoldsValue, holding}
use Rattle.flow_reasons.specs.code.Holding.{AreTargetsUntil, is_lost, is_made}
use Rattle.flow_reasons.specs.code.Marks.{AreAllBelow, AreMarks}
use Rattle.flow_reasons.proofs.meetings.Meetings.{linked_forward, same_edges, step_low}

-- what is made available is not killed
apart_in : (o : Option Expr) (ev ch : Expr → Bool) → unwrap_or (option_map (λ e. ev e && not (ch e)) o) false ≡ true
    → unwrap_or (option_map ch o) false ≡ false
apart_in None ev ch made = refl
apart_in (Some e) ev ch made = by_parts (ev e) (ch e) made
  where
    by_parts : (a b : Bool) → a && not b ≡ true → b ≡ false
    by_parts true true made = absurd (cc made)
    by_parts true false made = refl
    by_parts false b made = absurd (cc made)

available_apart : (program : Program) (e x : ℕ) → gens program Avail x e ≡ true → kills program Avail x e ≡ false
available_apart program e x = apart_in (slice_get (expressions program) e) (evaluates program x) (changes program x)

-- what a statement loses, told by the may form of available expressions
lost_by : (w g k : Bool) → (g ≡ true → k ≡ false) → ((w || (k && not g)) && not (w && g)) ≡ ((w || k) && not (w && g))
lost_by true true k apart = refl
lost_by true false k apart = refl
lost_by false true true apart = absurd (cc (apart refl))
lost_by false true false apart = refl
lost_by false false true apart = refl
lost_by false false false apart = refl

pub lost_is : (program : Program) (e variable x : ℕ)
    → ((writes program x variable || (kills program Avail x e && not (gens program Avail x e))) && not (is_made program e variable x))
    ≡ is_lost program e variable x
lost_is program e variable x =
    lost_by (writes program x variable) (gens program Avail x e) (kills program Avail x e) (available_apart program e x)

-- a test that stands for a list
among_of_any : (x : ℕ) (xs : List ℕ) → list_any (nat_eq x) xs ≡ true → Contains xs x
among_of_any x [] never = absurd (cc never)
among_of_any x (y ∷ ys) any = by_test (nat_eq x y) refl any (among_of_any x ys)
  where
    by_test : (b : Bool) → nat_eq x y ≡ b → b || list_any (nat_eq x) ys ≡ true → (list_any (nat_eq x) ys ≡ true → Contains ys x)
        → Contains (y ∷ ys) x
    by_test true is any rest = let same : x ≡ y = grind arith in subst (Contains (y ∷ ys)) (sym same) (Contains-first y ys)
    by_test false is any rest = Contains-later y ys x (rest any)

same_truth : (a b : Bool) → (a ≡ true → b ≡ true) → (b ≡ true → a ≡ true) → a ≡ b
same_truth true true forth back = refl
same_truth true false forth back = absurd (cc (forth refl))
same_truth false true forth back = absurd (cc (back refl))
same_truth false false forth back = refl

module _ (program : Program) (sound : IsSound program) (e variable : ℕ) (made : List Bool) (lost : List ℕ)
    (made_are : AreMarks (point_count program) (is_made program e variable) made)
    (lost_are : AreAllBelow (λ x. is_lost program e variable x ≡ true) (point_count program) lost) where
  lacks_agrees : AgreesOnSteps (shape_of program) (point_transfer false (record { gens = lost; kills = made; boundary = true }))
      (complemented_transfer (holding program e variable))
  lacks_agrees = record {
    same_gen = λ x y edge.
        same_truth (list_any (nat_eq x) lost) (is_lost program e variable x) (λ any. (lost_are.below x (among_of_any x lost any)).1)
        (λ is. any_of x lost (lost_are.all x (step_low program sound x y edge) is));
    same_kill = λ x y edge. made_are.each x (step_low program sound x y edge);
    same_boundary = refl;
  }

  -- that no path lacks the bit is that every one has it
  pub always_is : (linked : LinkedProgram) (at : ℕ) (lacks : Bool) → linked ≡ record { program = program; backward = false }
      → (lacks ≡ true)
      ↔ SomePathHas (directed_shape linked) (point_transfer linked.backward (record { gens = lost; kills = made; boundary = true })) at
      → (not lacks ≡ true) ↔ EveryPathHas (shape_of program) (holding program e variable) at
  always_is linked at lacks is tells =
      let bit : StatementBit = record { gens = lost; kills = made; boundary = true } in
      let (forth, back) = linked_forward program linked bit at is in
      let same = (same_edges_same_paths (shape_of program) (shape_of program) (point_transfer false bit)
      (complemented_transfer (holding program e variable)) at (same_edges (shape_of program)) lacks_agrees).1 in
      let complement = (meets_complement (shape_of program) (holding program e variable) at).0 in
      by_case lacks (λ yes. same.0 (forth (tells.0 yes))) (λ some. tells.1 (back (same.1 some))) complement
    where
      by_case : (lacks : Bool) → (lacks ≡ true → SomePathHas (shape_of program) (complemented_transfer (holding program e variable)) at)
          → (SomePathHas (shape_of program) (complemented_transfer (holding program e variable)) at → lacks ≡ true)
          → (EveryPathHas (shape_of program) (holding program e variable) at
          ↔ (¬ (SomePathHas (shape_of program) (complemented_transfer (holding program e variable)) at)))
          → (not lacks ≡ true) ↔ EveryPathHas (shape_of program) (holding program e variable) at
      by_case true some lack complement = (λ never. absurd (cc never), λ every. absurd (complement.0 every (some refl)))
      by_case false some lack complement = (λ yes. complement.1 (λ some. absurd (cc (lack some))), λ every. refl)

-- a bit that no step makes is on no path that begins without it
never_made : (shape : Shape) (transfer : Transfer) → ((x y : ℕ) → IsEdge shape (Step x y) → transfer.gen x y ≡ false) → (path : List Edge) (x y : ℕ)
    → IsPath shape x path y → value_after transfer path false ≡ false
never_made shape transfer none [] x y is_path = refl
never_made shape transfer none (Step a b ∷ path) x y is_path =
    ap (λ g. value_after transfer path (g || (false && not (transfer.kill a b)))) (none a b is_path.0)
    ∙ never_made shape transfer none path b y is_path.2
never_made shape transfer none (Call site a b ∷ path) x y is_path = never_made shape transfer none path b y is_path.2
never_made shape transfer none (Ret site a b ∷ path) x y is_path = never_made shape transfer none path b y is_path.2

-- a variable that is no target of the expression does not hold it
pub not_held : (program : Program) → IsSound program → (e variable at : ℕ) (marks : List Bool) → AreTargetsUntil program e (point_count program) marks
    → variable < length marks → get_or marks variable false ≡ false → HoldsValue program e at variable → ⊥
not_held program sound e variable at marks are low unmarked holds =
    let (path, valid) = holds.reached in
    absurd (cc (holds.always path valid, never_made (shape_of program) (holding program e variable) none path _ at valid.0))
  where
    none : (x y : ℕ) → IsEdge (shape_of program) (Step x y) → is_made program e variable x ≡ false
    none x y edge =
        by_case (is_made program e variable x) (λ made. are.all x variable (step_low program sound x y edge) low made)
      where
        by_case : (b : Bool) → (b ≡ true → get_or marks variable false ≡ true) → b ≡ false
        by_case true marked = absurd (cc (marked refl, unmarked))
        by_case false marked = refl

-- one more statement was looked at
pub targets_more : (program : Program) (e until : ℕ) (old new : List Bool) → AreTargetsUntil program e until old → length new ≡ length old
    → ((x : ℕ) → get_or old x false ≡ true → get_or new x false ≡ true)
    → ((x : ℕ) → x < length old → is_made program e x until ≡ true → get_or new x false ≡ true) → AreTargetsUntil program e (until + 1) new
targets_more program e until old new are same kept made = record {
  count = same ∙ are.count;
  all = λ x variable low within is. elim (cases_eq x until) [
    | inl last ↦ made variable (subst (λ n. variable < n) same within) (subst (λ n. is_made program e variable n ≡ true) last is)
    | inr other ↦ kept variable (are.all x variable (omega (arith, low, other)) (subst (λ n. variable < n) same within) is)
  ];
}

-- what is no target of the expression does not hold its value
pub not_held_is : (program : Program) (e at variable : ℕ) → IsSound program → (marks : List Bool)
    → AreTargetsUntil program e (point_count program) marks → variable < length marks → get_or marks variable false ≡ false
    → (false ≡ true) ↔ HoldsValue program e at variable
not_held_is program e at variable sound marks are low unmarked =
    (λ never. absurd (cc never), λ held. absurd (not_held program sound e variable at marks are low unmarked held))
