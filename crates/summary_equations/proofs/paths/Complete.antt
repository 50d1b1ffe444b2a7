-- Each path lies within what the clauses derive
use Rattle.std.proofs.Common.{◌≡◌, ℕ, Bool, true, false, not, ◌&&◌, ◌||◌, List, [], ◌∷◌, Some, ◌<◌, refl, sym, ◌∙◌, inl, inr, ◌⊎◌}
use Rattle.flow_graph.specs.declared.edge.Edge.{Edge}
use Rattle.flow_graph.specs.declared.edge.Edge.TheVariants.{Step, Call, Ret}
use Rattle.flow_graph.specs.Paths.{Shape, Transfer, IsEdge, IsPath, open_sites_after, value_across, value_after}
use Rattle.flow_graph.specs.WellFormed.{IsWellFormed}
use Rattle.flow_graph.proofs.paths.PathLemmas.{open_sites_after-none, same_site}
use Rattle.summary_equations.specs.Equations.{CallsAt, ReturnsTo, Reached, entry_is_reached, reached_by_step, reached_by_call, Preserved, preserved_at_entry}
use Rattle.summary_equations.specs.Equations.{preserved_by_step, preserved_by_call, Generated, generated_by_step, generated_before_step, generated_by_callee, generated_before_call}
use Rattle.summary_equations.specs.Equations.{Entered}
use Rattle.summary_equations.specs.Equations.{entered_by_call, Brought, brought_where_generated, brought_where_preserved}

-- the bit is at x, where `before` says whether it was at the entry of x's procedure
abbrev pub Holds : Shape → Transfer → ℕ → Bool → Type 0
Holds shape transfer x before = Generated shape transfer x ⊎ ((before ≡ true) × Preserved shape transfer.kill x)

-- a path that began at the entry of `first` with the bit as `start` says has come into a procedure, with these sites open
-- and the bit as `now` says
abbrev pub CameInto : Shape → Transfer → ℕ → Bool → ℕ → List ℕ → Bool → Type 0
CameInto shape transfer first start procedure [] now = (procedure ≡ first) × (now ≡ start)
CameInto shape transfer first start procedure (site ∷ sites) now =
    (x : ℕ) × (before : Bool) × CallsAt shape site x procedure × Reached shape x
    × CameInto shape transfer first start (shape.procedure_of x) sites before × (now ≡ true → Holds shape transfer x before)

-- it stands at x
pub record StandsAt (shape : Shape) (transfer : Transfer) (first : ℕ) (start : Bool) (x : ℕ) (sites : List ℕ) (now : Bool) : Type 0 where
  pub reached : Reached shape x
  pub before : Bool
  pub came : CameInto shape transfer first start (shape.procedure_of x) sites before
  pub holds : now ≡ true → Holds shape transfer x before

module _ (shape : Shape) (transfer : Transfer) (well : IsWellFormed shape) (first : ℕ) (start : Bool) where
  pub stands_at_entry : first < shape.procedures → StandsAt shape transfer first start (shape.entry first) [] start
  stands_at_entry in_range = record {
    reached = entry_is_reached first in_range;
    before = start;
    came = (well.entry_inside first in_range, refl);
    holds = λ e. inr (e, preserved_at_entry first in_range);
  }

  stands_after_step : (x y : ℕ) (sites : List ℕ) (now : Bool) → IsEdge shape (Step x y) → StandsAt shape transfer first start x sites now
      → StandsAt shape transfer first start y sites (value_across transfer (Step x y) now)
  stands_after_step x y sites now edge at_x = record {
    reached = reached_by_step x y edge at_x.reached;
    before = at_x.before;
    came = rw (← well.step_inside x y edge) at_x.came;
    holds = go (transfer.gen x y) (transfer.kill x y) now refl refl at_x.holds;
  }
    where
      keep : transfer.kill x y ≡ false → Holds shape transfer x at_x.before → Holds shape transfer y at_x.before
      keep unkilled (inl generated) = inl (generated_before_step x y edge at_x.reached generated unkilled)
      keep unkilled (inr preserved) = inr (preserved.0, preserved_by_step x y edge at_x.reached preserved.1 unkilled)

      go : (gen kill now : Bool) → transfer.gen x y ≡ gen → transfer.kill x y ≡ kill → (now ≡ true → Holds shape transfer x at_x.before)
          → (gen || (now && not kill)) ≡ true → Holds shape transfer y at_x.before
      go true kill now gens kills holds has = inl (generated_by_step x y edge at_x.reached gens)
      go false true true gens kills holds has = absurd (cc has)
      go false false true gens kills holds has = keep kills (holds refl)
      go false kill false gens kills holds has = absurd (cc has)

  pub came_by_call : (site x y : ℕ) (sites : List ℕ) (now : Bool) → IsEdge shape (Call site x y) → StandsAt shape transfer first start x sites now
      → CameInto shape transfer first start (shape.procedure_of y) (site ∷ sites) now
  came_by_call site x y sites now edge at_x =
      let target = well.call_to_entry site x y edge in
      (x, at_x.before, (target.0, rw target.1 at edge), at_x.reached, at_x.came, at_x.holds)

  stands_after_call : (site x y : ℕ) (sites : List ℕ) (now : Bool) → IsEdge shape (Call site x y) → StandsAt shape transfer first start x sites now
      → StandsAt shape transfer first start y (site ∷ sites) now
  stands_after_call site x y sites now edge at_x =
      let target = well.call_to_entry site x y edge in
      record {
        reached = rw target.1 (entry_is_reached _ target.0);
        before = now;
        came = came_by_call site x y sites now edge at_x;
        holds = λ e. inr (e, rw target.1 (preserved_at_entry _ target.0));
      }

  stands_after_return : (site x z : ℕ) (sites : List ℕ) (now : Bool) → IsEdge shape (Ret site x z)
      → StandsAt shape transfer first start x (site ∷ sites) now
      → StandsAt shape transfer first start z sites now
  stands_after_return site x z sites now edge at_x =
      let (caller, before, call, at_call, came, at_call_holds) = at_x.came in
      let exit = (well.return_from_exit site x z edge).1 in
      let return : ReturnsTo shape site (shape.procedure_of x) z = rw exit at edge in
      let at_exit = rw exit at at_x.reached in
      record {
        reached = reached_by_call site caller (shape.procedure_of x) z call return at_call at_exit;
        before = before;
        came = rw (← well.site_inside site caller _ x z call.1 edge) came;
        holds = λ e. through caller before call at_call at_call_holds return at_exit (rw exit at at_x.holds e);
      }
    where
      out : (caller : ℕ) (before : Bool) → CallsAt shape site caller (shape.procedure_of x) → Reached shape caller
          → ReturnsTo shape site (shape.procedure_of x) z → Reached shape (shape.exit (shape.procedure_of x))
          → Preserved shape transfer.kill (shape.exit (shape.procedure_of x)) → Holds shape transfer caller before → Holds shape transfer z before
      out caller before call at_call return at_exit preserved (inl generated) = inl (generated_before_call site caller _ z call return at_call at_exit generated preserved)
      out caller before call at_call return at_exit preserved (inr preserved_before) =
          inr (preserved_before.0, preserved_by_call site caller _ z call return at_call at_exit preserved_before.1 preserved)

      through : (caller : ℕ) (before : Bool) → CallsAt shape site caller (shape.procedure_of x) → Reached shape caller
          → (at_x.before ≡ true → Holds shape transfer caller before)
          → ReturnsTo shape site (shape.procedure_of x) z → Reached shape (shape.exit (shape.procedure_of x))
          → Holds shape transfer (shape.exit (shape.procedure_of x)) at_x.before → Holds shape transfer z before
      through caller before call at_call holds return at_exit (inl generated) = inl (generated_by_callee site caller _ z call return at_call at_exit generated)
      through caller before call at_call holds return at_exit (inr preserved) = out caller before call at_call return at_exit preserved.1 (holds preserved.0)

  pub stands_after_path : (path : List Edge) (x y : ℕ) (sites after : List ℕ) (now : Bool) → IsPath shape x path y
      → open_sites_after path (Some sites) ≡ Some after
      → StandsAt shape transfer first start x sites now → StandsAt shape transfer first start y after (value_after transfer path now)
  stands_after_path [] x y sites after now is_path opens at_x =
      let same : sites ≡ after = cc in
      rw (← is_path, ← same) at_x
  stands_after_path (Step i j ∷ path) x y sites after now is_path opens at_x =
      stands_after_path path j y sites after _ is_path.2 opens (stands_after_step i j sites now is_path.0 (rw is_path.1 at_x))
  stands_after_path (Call site i j ∷ path) x y sites after now is_path opens at_x =
      stands_after_path path j y (site ∷ sites) after now is_path.2 opens (stands_after_call site i j sites now is_path.0 (rw is_path.1 at_x))
  stands_after_path (Ret site i j ∷ path) x y [] after now is_path opens at_x = absurd (cc (opens, open_sites_after-none path))
  stands_after_path (Ret site i j ∷ path) x y (latest ∷ sites) after now is_path opens at_x =
      let (same, rest) = same_site site latest path sites after opens in
      stands_after_path path j y sites after now is_path.2 rest (stands_after_return site i j sites now is_path.0 (rw (is_path.1, same) at_x))

  pub entered_of : Entered shape first → (sites : List ℕ) (procedure : ℕ) (now : Bool) → CameInto shape transfer first start procedure sites now
      → Entered shape procedure
  entered_of entered [] procedure now came = rw came.0 entered
  entered_of entered (site ∷ sites) procedure now came =
      let (x, before, call, at_x, outer, holds) = came in
      entered_by_call site x procedure call (entered_of entered sites (shape.procedure_of x) before outer) at_x

  pub brought_of : Entered shape first → (start ≡ true → Brought shape transfer first) → (sites : List ℕ) (procedure : ℕ) (now : Bool)
      → CameInto shape transfer first start procedure sites now → now ≡ true → Brought shape transfer procedure
  brought_of entered brought [] procedure now came has = rw came.0 (brought (sym came.1 ∙ has))
  brought_of entered brought (site ∷ sites) procedure now came has =
      let (x, before, call, at_x, outer, holds) = came in
      let caller_entered = entered_of entered sites (shape.procedure_of x) before outer in
      go x before call at_x caller_entered (brought_of entered brought sites (shape.procedure_of x) before outer) (holds has)
    where
      go : (x : ℕ) (before : Bool) → CallsAt shape site x procedure → Reached shape x → Entered shape (shape.procedure_of x)
          → (before ≡ true → Brought shape transfer (shape.procedure_of x)) → Holds shape transfer x before → Brought shape transfer procedure
      go x before call at_x caller_entered caller_brought (inl generated) = brought_where_generated site x procedure call caller_entered at_x generated
      go x before call at_x caller_entered caller_brought (inr preserved) =
          brought_where_preserved site x procedure call caller_entered at_x (caller_brought preserved.0) preserved.1
