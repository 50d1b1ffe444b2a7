-- The bits of a word across one edge
use Rattle.std.proofs.Common.{◌≡◌, ◌<◌, ◌⊎◌, ◌↔◌, inl, inr, ◌&&◌, ◌||◌, not, true, Bool, ℕ, List, sym, ◌∙◌, subst}
use Rattle.std.proofs.lemmas.Bool.{or_left, or_right, or_cases, and_parts, and_from, not-true}
use Rattle.bit_rows.specs.Words.{has_bit}
use Rattle.flow_graph.specs.declared.edge.Edge.{Edge}
use Rattle.flow_graph.specs.declared.edge.Edge.TheVariants.{Step, Call, Ret}
use Rattle.flow_graph.specs.Paths.{Shape, Transfer, IsEdge}
use Rattle.summary_equations.specs.Equations.{Reached, Entered, HasFlag, entry_is_reached, reached_by_step, reached_by_call, preserved_at_entry}
use Rattle.summary_equations.specs.Equations.{preserved_by_step}
use Rattle.summary_equations.specs.Equations.{preserved_by_call, generated_by_step, generated_before_step, generated_by_callee, generated_before_call, entered_by_call}
use Rattle.summary_equations.specs.Equations.{root_is_entered}
use Rattle.summary_equations.specs.Equations.{brought_where_generated, brought_where_preserved, CallsAt, ReturnsTo}
use Rattle.flow_links.specs.Shapes.{IsNumbered, after_site}
use Rattle.gk_solve.specs.Tables.Flags.{IsFlagged}
use Rattle.gk_solve.specs.Tables.Words.{HasBit, AreSoundWords, IsPreserveClosedAt, IsMakeClosedAt, IsBringClosedAt, IsPreserved, IsGenerated, IsBrought}
use Rattle.gk_solve.proofs.visits.FlagVisits.{call_of, return_of}
use Rattle.summary_equations.proofs.solutions.Least.{preserved_least, generated_least, brought_least}

-- a bit of the new ones, or of those before that are preserved
pub new_bit : (a b c : Bool) → (a ≡ true) ⊎ ((b ≡ true) × (c ≡ true)) → (a || (b && c)) ≡ true
new_bit a b c (inl new) = or_left a (b && c) new
new_bit a b c (inr before) = or_right a (b && c) (and_from b c before.0 before.1)

pub which_bit : (a b c : Bool) → (a || (b && c)) ≡ true → (a ≡ true) ⊎ ((b ≡ true) × (c ≡ true))
which_bit a b c has = elim (or_cases a (b && c) has) [ inl new ↦ inl new | inr before ↦ inr (and_parts b c before) ]

module _ {shape : Shape} {backward : Bool} {points : ℕ} (is : IsNumbered shape backward points) (transfer : ℕ → Transfer) where
  -- ---- what is put is sound
  pub step_keeps : (x y : ℕ) → IsEdge shape (Step x y) → Reached shape x → (preserved : ℕ → ℕ) (bits k : ℕ) → k < 64
      → has_bit bits k ≡ (has_bit (preserved x) k && not ((transfer k).kill x y)) → AreSoundWords (IsPreserved shape transfer) preserved → has_bit bits k ≡ true
      → IsPreserved shape transfer k y
  step_keeps x y there at_x preserved bits k low are sound has =
      let parts = and_parts (has_bit (preserved x) k) (not ((transfer k).kill x y)) (sym are ∙ has) in
      preserved_by_step x y there at_x (sound x k low parts.0) (not-true ((transfer k).kill x y) parts.1)

  pub step_makes : (x y : ℕ) → IsEdge shape (Step x y) → Reached shape x → (generated : ℕ → ℕ) (bits k : ℕ) → k < 64
      → has_bit bits k ≡ ((transfer k).gen x y || (has_bit (generated x) k && not ((transfer k).kill x y))) → AreSoundWords (IsGenerated shape transfer) generated
      → has_bit bits k ≡ true → IsGenerated shape transfer k y
  step_makes x y there at_x generated bits k low are sound has =
      elim (which_bit ((transfer k).gen x y) (has_bit (generated x) k) (not ((transfer k).kill x y)) (sym are ∙ has)) [
        | inl gens ↦ generated_by_step x y there at_x gens
        | inr before ↦ generated_before_step x y there at_x (sound x k low before.0) (not-true ((transfer k).kill x y) before.1)
      ]

  pub call_keeps : (site x y k : ℕ) → IsEdge shape (Call site x y) → Reached shape x → Reached shape (shape.exit (shape.procedure_of y))
      → IsPreserved shape transfer k x → IsPreserved shape transfer k (shape.exit (shape.procedure_of y)) → IsPreserved shape transfer k (after_site backward site)
  call_keeps site x y k there at_x at_exit = preserved_by_call site x (shape.procedure_of y) (after_site backward site) (call_of is site x y there)
      (return_of is site x y there) at_x at_exit

  pub call_makes : (site x y k : ℕ) → IsEdge shape (Call site x y) → Reached shape x → Reached shape (shape.exit (shape.procedure_of y))
      → IsGenerated shape transfer k (shape.exit (shape.procedure_of y))
      ⊎ (IsGenerated shape transfer k x × IsPreserved shape transfer k (shape.exit (shape.procedure_of y))) → IsGenerated shape transfer k (after_site backward site)
  call_makes site x y k there at_x at_exit (inl callee) = generated_by_callee site x (shape.procedure_of y) (after_site backward site) (call_of is site x y there)
      (return_of is site x y there) at_x at_exit callee
  call_makes site x y k there at_x at_exit (inr before) = generated_before_call site x (shape.procedure_of y) (after_site backward site) (call_of is site x y there)
      (return_of is site x y there) at_x at_exit before.0 before.1

  pub call_brings : (site x y : ℕ) → IsEdge shape (Call site x y) → HasFlag shape x → (preserved generated brought : ℕ → ℕ) (bits k : ℕ) → k < 64
      → has_bit bits k ≡ (has_bit (generated x) k || (has_bit (brought (shape.procedure_of x)) k && has_bit (preserved x) k))
      → (HasBit preserved x k → IsPreserved shape transfer k x) → (HasBit generated x k → IsGenerated shape transfer k x)
      → AreSoundWords (IsBrought shape transfer) brought → has_bit bits k ≡ true → IsBrought shape transfer k (shape.procedure_of y)
  call_brings site x y there at_x preserved generated brought bits k low are is_preserved is_generated sound has =
      let call = call_of is site x y there in
      elim (which_bit (has_bit (generated x) k) (has_bit (brought (shape.procedure_of x)) k) (has_bit (preserved x) k) (sym are ∙ has)) [
        | inl new ↦ brought_where_generated site x (shape.procedure_of y) call at_x.0 at_x.1 (is_generated new)
        | inr before ↦
            brought_where_preserved site x (shape.procedure_of y) call at_x.0 at_x.1 (sound (shape.procedure_of x) k low before.0) (is_preserved before.1)
      ]

  -- ---- what is closed at each edge is all, at the points with a path
  module _ (paths : List Bool) (exact : (x : ℕ) → IsFlagged paths x ↔ HasFlag shape x) where
    caller_flag : (site x p z : ℕ) → CallsAt shape site x p → ReturnsTo shape site p z → Reached shape x → HasFlag shape z → HasFlag shape x
    caller_flag site x p z call return at_x at_z =
        let same : shape.procedure_of x ≡ shape.procedure_of z = is.formed.site_inside site x (shape.entry p) (shape.exit p) z call.1 return in
        (subst (Entered shape) (sym same) at_z.0, at_x)

    callee_flag : (site x p : ℕ) → CallsAt shape site x p → HasFlag shape x → Reached shape (shape.exit p) → HasFlag shape (shape.exit p)
    callee_flag site x p call at_x at_exit =
        (subst (Entered shape) (sym (is.formed.exit_inside p call.0)) (entered_by_call site x p call at_x.0 at_x.1), at_exit)

    back_of : (site x p z : ℕ) → CallsAt shape site x p → ReturnsTo shape site p z → z ≡ after_site backward site
    back_of site x p z call return =
        (is.one_return site x (shape.entry p) z call.1).0
        (subst (λ (n : ℕ). IsEdge shape (Ret site (shape.exit n) z)) (sym (is.formed.entry_inside p call.0)) return)

    pub all_preserved : (preserved : ℕ → ℕ) → ((edge : Edge) → IsEdge shape edge → IsPreserveClosedAt shape backward transfer paths preserved edge)
        → (k : ℕ) → k < 64 → ((p : ℕ) → p < shape.procedures → HasBit preserved (shape.entry p) k) → (x : ℕ) → HasFlag shape x → IsPreserved shape transfer k x
        → HasBit preserved x k
    all_preserved preserved closed k low entry x at_x is_preserved =
        preserved_least {shape = shape} {kill = (transfer k).kill} {reached = Reached shape} {preserved = λ x. HasFlag shape x → HasBit preserved x k}
        record { entry = entry_is_reached; step = reached_by_step; call = reached_by_call }
        record {
          entry = λ p within at_entry. entry p within;
          step = λ x y edge at_x before unkilled at_y.
              let flag : HasFlag shape x = (subst (Entered shape) (sym (is.formed.step_inside x y edge)) at_y.0, at_x) in
              closed (Step x y) edge k low ((exact x).1 flag) (before flag) unkilled;
          call = λ site x p z call return at_x at_exit before through at_z.
              let same : shape.procedure_of (shape.entry p) ≡ p = is.formed.entry_inside p call.0 in
              let flag = caller_flag site x p z call return at_x at_z in
              let there = callee_flag site x p call flag at_exit in
              subst (λ n. HasBit preserved n k) (sym (back_of site x p z call return))
              (closed (Call site x (shape.entry p)) call.1 k low ((exact x).1 flag)
              (subst (λ (n : ℕ). IsFlagged paths (shape.exit n)) (sym same) ((exact (shape.exit p)).1 there)) (before flag)
              (subst (λ (n : ℕ). HasBit preserved (shape.exit n) k) (sym same) (through there)));
        }
        is_preserved at_x

    pub all_generated : (preserved generated : ℕ → ℕ) → ((edge : Edge) → IsEdge shape edge → IsPreserveClosedAt shape backward transfer paths preserved edge)
        → ((edge : Edge) → IsEdge shape edge → IsMakeClosedAt shape backward transfer paths preserved generated edge)
        → (k : ℕ) → k < 64 → ((p : ℕ) → p < shape.procedures → HasBit preserved (shape.entry p) k) → (x : ℕ) → HasFlag shape x → IsGenerated shape transfer k x
        → HasBit generated x k
    all_generated preserved generated keep_closed closed k low entry x at_x is_generated =
        generated_least {shape = shape} {transfer = transfer k} {reached = Reached shape} {preserved = IsPreserved shape transfer k} {generated = λ x. HasFlag shape x
        → HasBit generated x k}
        record { entry = entry_is_reached; step = reached_by_step; call = reached_by_call }
        record { entry = preserved_at_entry; step = preserved_by_step; call = preserved_by_call }
        record {
          by_step = λ x y edge at_x gens at_y. closed (Step x y) edge k low ((exact x).1 (start x y edge at_x at_y)) (inl gens);
          before_step = λ x y edge at_x before unkilled at_y. let flag = start x y edge at_x at_y in
              closed (Step x y) edge k low ((exact x).1 flag) (inr (before flag, unkilled));
          by_callee = λ site x p z call return at_x at_exit callee at_z.
              let flag = caller_flag site x p z call return at_x at_z in
              through site x p z call return flag at_exit (inl (callee (callee_flag site x p call flag at_exit)));
          before_call = λ site x p z call return at_x at_exit before preserved_there at_z.
              let flag = caller_flag site x p z call return at_x at_z in
              through site x p z call return flag at_exit
              (inr (before flag, all_preserved preserved keep_closed k low entry (shape.exit p) (callee_flag site x p call flag at_exit) preserved_there));
        }
        is_generated at_x
      where
        start : (x y : ℕ) → IsEdge shape (Step x y) → Reached shape x → HasFlag shape y → HasFlag shape x
        start x y edge at_x at_y = (subst (Entered shape) (sym (is.formed.step_inside x y edge)) at_y.0, at_x)

        through : (site x p z : ℕ) → CallsAt shape site x p → ReturnsTo shape site p z → HasFlag shape x → Reached shape (shape.exit p)
            → (HasBit generated (shape.exit p) k ⊎ (HasBit generated x k × HasBit preserved (shape.exit p) k)) → HasBit generated z k
        through site x p z call return flag at_exit either =
            let same : shape.procedure_of (shape.entry p) ≡ p = is.formed.entry_inside p call.0 in
            subst (λ n. HasBit generated n k) (sym (back_of site x p z call return))
            (closed (Call site x (shape.entry p)) call.1 k low ((exact x).1 flag)
            (subst (λ (n : ℕ). IsFlagged paths (shape.exit n)) (sym same) ((exact (shape.exit p)).1 (callee_flag site x p call flag at_exit)))
            (subst (λ (n : ℕ). HasBit generated (shape.exit n) k ⊎ (HasBit generated x k × HasBit preserved (shape.exit n) k)) (sym same) either))

    pub all_brought : (preserved generated brought : ℕ → ℕ) → ((x k : ℕ) → k < 64 → HasFlag shape x → IsPreserved shape transfer k x → HasBit preserved x k)
        → ((x k : ℕ) → k < 64 → HasFlag shape x → IsGenerated shape transfer k x → HasBit generated x k)
        → ((edge : Edge) → IsEdge shape edge → IsBringClosedAt shape paths preserved generated brought edge)
        → (k : ℕ) → k < 64 → ((transfer k).boundary ≡ true → HasBit brought shape.root_procedure k) → (p : ℕ) → IsBrought shape transfer k p
        → HasBit brought p k
    all_brought preserved generated brought every_preserved every_generated closed k low root p is_brought =
        brought_least {shape = shape} {transfer = transfer k} {reached = Reached shape} {preserved = IsPreserved shape transfer k}
        {generated = IsGenerated shape transfer k} {entered = Entered shape} {brought = λ n. HasBit brought n k}
        record { entry = entry_is_reached; step = reached_by_step; call = reached_by_call }
        record { entry = preserved_at_entry; step = preserved_by_step; call = preserved_by_call }
        record { by_step = generated_by_step; before_step = generated_before_step; by_callee = generated_by_callee; before_call = generated_before_call }
        record { root = root_is_entered; call = entered_by_call }
        record {
          boundary = root;
          where_generated = λ site x q call caller at_x new. across site x q call (caller, at_x) (inl (every_generated x k low (caller, at_x) new));
          where_preserved = λ site x q call caller at_x before through.
              across site x q call (caller, at_x) (inr (before, every_preserved x k low (caller, at_x) through));
        }
        is_brought
      where
        across : (site x q : ℕ) → CallsAt shape site x q → HasFlag shape x
            → (HasBit generated x k ⊎ (HasBit brought (shape.procedure_of x) k × HasBit preserved x k)) → HasBit brought q k
        across site x q call flag either =
            subst (λ n. HasBit brought n k) (is.formed.entry_inside q call.0)
            (closed (Call site x (shape.entry q)) call.1 k low ((exact x).1 flag) either)
