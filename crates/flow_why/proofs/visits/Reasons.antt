-- Reasons to mark points
use Rattle.std.proofs.Common.{◌≡◌, ◌<◌, ℕ, Bool, true, false, arith, refl, sym, ◌∙◌, ap, subst, List}
use Rattle.flow_graph.specs.MatchedPaths.{IsMatchedPath, is_preserved_along}
use Rattle.flow_graph.specs.declared.edge.Edge.{Edge}
use Rattle.flow_graph.specs.declared.edge.Edge.TheVariants.{Step, Call, Ret}
use Rattle.flow_graph.specs.Paths.{Shape, Transfer, IsEdge, root}
use Rattle.flow_graph.specs.Points.{point_count}
use Rattle.flow_graph.specs.WellFormed.{IsWellFormed}
use Rattle.flow_links.specs.Shapes.{after_site, call_site}
use Rattle.flow_why.specs.PointBits.{step_statement}
use Rattle.summary_equations.specs.Equations.{CallsAt, ReturnsTo, Preserved, Generated, preserved_at_entry}
use Rattle.summary_equations.proofs.paths.Sound.{generated_path, preserved_path}
use Rattle.flow_why.specs.Witnesses.{HasEffect, IsThrough}
use Rattle.flow_why.specs.code.Found.{Found, Has}
use Rattle.flow_why.specs.code.Frames.{IsFrame, call_after, effect_of, is_asked, question_of, transfer_for}
use Rattle.flow_why.specs.code.Marked.{AreMarks, BaseHas, MayMark}
use Rattle.flow_why.specs.code.Moves.{Crosses, moves_by_step, moves_into_call, moves_past_call, effect_between}
use Rattle.flow_why.specs.declared.claim.Claim.{Claim}
use Rattle.flow_why.specs.declared.claim.Claim.TheVariants as claim
use Rattle.flow_why.specs.declared.frame.Asked.{Asked}
use Rattle.flow_why.specs.declared.frame.Asked.TheVariants.{Paths, Column, Points}
use Rattle.flow_why.specs.declared.frame.Frame.{Frame}
use Rattle.flow_why.specs.declared.hop.Effect.{Effect}
use Rattle.flow_why.specs.declared.hop.Effect.TheVariants.{Generates}
use Rattle.flow_why.specs.declared.hop.Hop.TheVariants as hop
use Rattle.flow_why.specs.declared.mark.Reason.TheVariants.{Beginning, Own, Base}
use Rattle.flow_why.proofs.solutions.Sound.{callee_holds, enter_holds, gen_holds, pass_holds, root_holds, step_holds}
use Rattle.flow_why.proofs.visits.Growing.{has_family}
use Rattle.tac_program.specs.Limits.{most_points}
use Rattle.tac_program.specs.declared.limits.Limits.TheVariants.{Large}

-- a step that does not kill the bit
crosses_kept : (transfer : Transfer) (x y : ℕ) (v : Bool) → transfer.kill x y ≡ false → Crosses transfer x y v v
crosses_kept transfer x y true unkilled = unkilled
crosses_kept transfer x y false unkilled = tt

effect_is : (asked : Asked) → effect_of asked ≡ effect_between (is_asked asked) (is_asked asked)
effect_is Paths = refl
effect_is (Column problem column) = refl
effect_is (Points graph bit) = refl

module _ (shape : Shape) (transfer : Transfer) (well : IsWellFormed shape) where
  -- a path through a callee that keeps the bit has the effect that is wanted
  kept_effect : (v : Bool) (path : List Edge) → is_preserved_along transfer.kill path ≡ true → HasEffect transfer (effect_between v v) path
  kept_effect true path keeps = keeps
  kept_effect false path keeps = tt

  pub kept_through : (p : ℕ) → p < shape.procedures → Preserved shape transfer.kill (shape.exit p) → (v : Bool)
      → (path : List Edge) × IsThrough shape transfer p (effect_between v v) path
  kept_through p there kept v =
      let (path, from_entry, keeps) = preserved_path well kept in (
        path,
        (subst (λ q. IsMatchedPath shape (shape.entry q) path (shape.exit p)) (well.exit_inside p there) from_entry, kept_effect v path keeps),
      )

  pub made_through : (p : ℕ) → p < shape.procedures → Generated shape transfer (shape.exit p)
      → (path : List Edge) × IsThrough shape transfer p Generates path
  made_through p there made =
      let (path, from_entry, has) = generated_path well made in
      (path, (subst (λ q. IsMatchedPath shape (shape.entry q) path (shape.exit p)) (well.exit_inside p there) from_entry, has))

module _ (frame : Frame) (is : IsFrame frame) where
  -- the site and the return of a call
  pub call_here : (site x p : ℕ) → CallsAt (question_of frame).shape site x p
      → CallsAt (question_of frame).shape (call_site frame.links.now.backward x) x p
  call_here site x p call = (
    call.0,
    subst (λ s. IsEdge (question_of frame).shape (Call s x ((question_of frame).shape.entry p)))
        (is.numbered.one_site site x ((question_of frame).shape.entry p) call.1) call.1,
  )

  pub return_here : (site x p : ℕ) → CallsAt (question_of frame).shape site x p
      → ReturnsTo (question_of frame).shape (call_site frame.links.now.backward x) p (call_after frame.links.now.backward x)
  return_here site x p call =
      let shape = (question_of frame).shape in
      let here = call_here site x p call in
      subst (λ q. IsEdge shape (Ret (call_site frame.links.now.backward x) (shape.exit q) (call_after frame.links.now.backward x)))
      (is.numbered.formed.entry_inside p call.0)
      ((is.numbered.one_return (call_site frame.links.now.backward x) x (shape.entry p) (call_after frame.links.now.backward x) here.1).1 refl)

  -- a return of a call goes there alone
  pub after_is : (site x p z : ℕ) → CallsAt (question_of frame).shape site x p → ReturnsTo (question_of frame).shape site p z
      → z ≡ call_after frame.links.now.backward x
  after_is site x p z call return =
      let shape = (question_of frame).shape in
      (is.numbered.one_return site x (shape.entry p) z call.1).0
      (subst (λ q. IsEdge shape (Ret site (shape.exit q) z)) (sym (is.numbered.formed.entry_inside p call.0)) return)
      ∙ ap (after_site frame.links.now.backward) (is.numbered.one_site site x (shape.entry p) call.1)

  -- the ends of edges are points
  pub source_low : (x y : ℕ) → IsEdge (question_of frame).shape (Step x y) → x < point_count frame.links.now.program
  source_low x y edge = (is.numbered.edge_in_range (Step x y) edge).0

  pub target_low : (x y : ℕ) → IsEdge (question_of frame).shape (Step x y) → y < point_count frame.links.now.program
  target_low x y edge = (is.numbered.edge_in_range (Step x y) edge).1

  pub caller_low : (site x p : ℕ) → CallsAt (question_of frame).shape site x p → x < point_count frame.links.now.program
  caller_low site x p call = (is.numbered.edge_in_range _ call.1).0

  pub statement_low : (x y : ℕ) (b : Bool) → IsEdge (question_of frame).shape (Step x y)
      → step_statement b x y < point_count frame.links.now.program
  statement_low x y true edge = target_low x y edge
  statement_low x y false edge = source_low x y edge

  pub site_low : (b : Bool) (x : ℕ) → x < point_count frame.links.now.program → call_site b x < most_points Large
  site_low true x within = omega (arith, within, is.few)
  site_low false x within = omega (arith, within, is.few)

  module _ (found : Found) where
    pub may_step : (c : Claim) (x y : ℕ) → AreMarks (question_of frame) found → IsEdge (question_of frame).shape (Step x y)
        → (transfer_for frame).kill x y ≡ false → Has found c x → MayMark (question_of frame) c found y (Own (hop.Step x y))
    may_step c x y are edge unkilled has = record {
      within = (is.numbered.edge_in_range (Step x y) edge).1;
      sound = step_holds (question_of frame).shape (transfer_for frame) is.numbered.formed c x y edge unkilled
          (has_family (question_of frame) found c x are has);
      is = (
        x,
        has,
        moves_by_step x y (is_asked frame.asked) (is_asked frame.asked) edge (is.numbered.formed.step_inside x y edge)
            (crosses_kept (transfer_for frame) x y (is_asked frame.asked) unkilled),
      );
    }

    pub may_begin : (p : ℕ) → p < (question_of frame).shape.procedures
        → MayMark (question_of frame) claim.Preserved found ((question_of frame).shape.entry p) Beginning
    may_begin p there = record { within = is.numbered.entry_in_range p there; sound = preserved_at_entry p there; is = (p, there, refl) }

    pub may_root : (transfer_for frame).boundary ≡ true → MayMark (question_of frame) claim.Holds found (root (question_of frame).shape) Beginning
    may_root has = record {
      within = is.numbered.entry_in_range (question_of frame).shape.root_procedure is.numbered.formed.root_in_range;
      sound = root_holds (question_of frame).shape (transfer_for frame) is.numbered.formed has;
      is = (refl, has);
    }

    pub may_enter : (site x p : ℕ) → AreMarks (question_of frame) found → CallsAt (question_of frame).shape site x p → Has found claim.Holds x
        → MayMark (question_of frame) claim.Holds found ((question_of frame).shape.entry p)
        (Own (hop.Enter (call_site frame.links.now.backward x) x ((question_of frame).shape.entry p)))
    may_enter site x p are call has = record {
      within = is.numbered.entry_in_range p call.0;
      sound = enter_holds (question_of frame).shape (transfer_for frame) is.numbered.formed site x p call
          (has_family (question_of frame) found claim.Holds x are has);
      is = (
        x,
        has,
        moves_into_call (call_site frame.links.now.backward x) x ((question_of frame).shape.entry p) (is_asked frame.asked) refl
            (call_here site x p call).1,
      );
    }

    pub may_pass : (c : Claim) (site x p : ℕ) → AreMarks (question_of frame) found → CallsAt (question_of frame).shape site x p → Has found c x
        → Preserved (question_of frame).shape (transfer_for frame).kill ((question_of frame).shape.exit p)
        → MayMark (question_of frame) c found (call_after frame.links.now.backward x)
        (Own (hop.Pass (call_site frame.links.now.backward x) x p (call_after frame.links.now.backward x) (effect_of frame.asked)))
    may_pass c site x p are call has kept =
        let here = call_here site x p call in
        let return = return_here site x p call in
        let v = is_asked frame.asked in
        let through = kept_through (question_of frame).shape (transfer_for frame) is.numbered.formed p call.0 kept v in record {
          within = (is.numbered.edge_in_range _ return).1;
          sound = pass_holds (question_of frame).shape (transfer_for frame) is.numbered.formed c (call_site frame.links.now.backward x) x p
              (call_after frame.links.now.backward x) here return kept
              (has_family (question_of frame) found c x are has);
          is = (
            x,
            has,
            moves_past_call (call_site frame.links.now.backward x) x p (call_after frame.links.now.backward x) v v
                (effect_of frame.asked) here return
                (is.numbered.formed.site_inside _ x _ _ _ here.1 return) (λ had. had) (effect_is frame.asked) (
                  through.0,
                  subst (λ e. IsThrough (question_of frame).shape (transfer_for frame) p e through.0) (sym
                      (effect_is frame.asked)) through.1,
                ),
          );
        }

    pub may_generate : (c : Claim) (site x p : ℕ) → CallsAt (question_of frame).shape site x p → BaseHas frame.base.now c x
        → Generated (question_of frame).shape (transfer_for frame) ((question_of frame).shape.exit p)
        → MayMark (question_of frame) c found (call_after frame.links.now.backward x)
        (Base (hop.Pass (call_site frame.links.now.backward x) x p (call_after frame.links.now.backward x) Generates))
    may_generate c site x p call based made =
        let here = call_here site x p call in
        let return = return_here site x p call in record {
          within = (is.numbered.edge_in_range _ return).1;
          sound = callee_holds (question_of frame).shape (transfer_for frame) is.numbered.formed (BaseHas frame.base.now) is.flags is.reaches
              (λ y none. none)
              c (call_site frame.links.now.backward x) x p
              (call_after frame.links.now.backward x) here return made based;
          is = (
            x,
            based,
            moves_past_call (call_site frame.links.now.backward x) x p (call_after frame.links.now.backward x) false true Generates here return
                (is.numbered.formed.site_inside _ x _ _ _ here.1 return) (λ had. refl) refl
                (made_through (question_of frame).shape (transfer_for frame) is.numbered.formed p call.0 made),
          );
        }

    pub may_gen : (c : Claim) (x y : ℕ) → IsEdge (question_of frame).shape (Step x y) → (transfer_for frame).gen x y ≡ true
        → BaseHas frame.base.now c x
        → MayMark (question_of frame) c found y (Base (hop.Step x y))
    may_gen c x y edge gens based = record {
      within = (is.numbered.edge_in_range (Step x y) edge).1;
      sound = gen_holds (question_of frame).shape (transfer_for frame) is.numbered.formed (BaseHas frame.base.now) is.flags is.reaches
          (λ y none. none)
          c x y edge gens based;
      is = (x, based, moves_by_step x y false true edge (is.numbered.formed.step_inside x y edge) gens);
    }

    -- the same, for numbers that are the site's, the return's and the effect
    pub may_enter_as : (site x p s : ℕ) (to : ℕ) → AreMarks (question_of frame) found → CallsAt (question_of frame).shape site x p
        → Has found claim.Holds x
        → s ≡ call_site frame.links.now.backward x → to ≡ (question_of frame).shape.entry p
        → MayMark (question_of frame) claim.Holds found to (Own (hop.Enter s x to))
    may_enter_as site x p s to are call has s_is to_is =
        subst (λ n. MayMark (question_of frame) claim.Holds found n (Own (hop.Enter s x n))) (sym to_is)
        (subst (λ n. MayMark (question_of frame) claim.Holds found ((question_of frame).shape.entry p) (Own (hop.Enter n x
        ((question_of frame).shape.entry p))))
        (sym s_is) (may_enter site x p are call has))

    pub may_pass_as : (c : Claim) (site x p s to : ℕ) (effect : Effect) → AreMarks (question_of frame) found → CallsAt
        (question_of frame).shape site x p
        → Has found c x → Preserved (question_of frame).shape (transfer_for frame).kill ((question_of frame).shape.exit p)
        → s ≡ call_site frame.links.now.backward x → to ≡ call_after frame.links.now.backward x → effect ≡ effect_of frame.asked
        → MayMark (question_of frame) c found to (Own (hop.Pass s x p to effect))
    may_pass_as c site x p s to effect are call has kept s_is to_is effect_same =
        subst (λ n. MayMark (question_of frame) c found n (Own (hop.Pass s x p n effect))) (sym to_is)
        (subst (λ n. MayMark (question_of frame) c found (call_after frame.links.now.backward x) (Own (hop.Pass n x p
        (call_after frame.links.now.backward x) effect)))
        (sym s_is)
        (subst (λ e. MayMark (question_of frame) c found (call_after frame.links.now.backward x)
        (Own (hop.Pass (call_site frame.links.now.backward x) x p (call_after frame.links.now.backward x) e))) (sym effect_same)
        (may_pass c site x p are call has kept)))

    pub may_generate_as : (c : Claim) (site x p s to : ℕ) → CallsAt (question_of frame).shape site x p → BaseHas frame.base.now c x
        → Generated (question_of frame).shape (transfer_for frame) ((question_of frame).shape.exit p)
        → s ≡ call_site frame.links.now.backward x → to ≡ call_after frame.links.now.backward x
        → MayMark (question_of frame) c found to (Base (hop.Pass s x p to Generates))
    may_generate_as c site x p s to call based made s_is to_is =
        subst (λ n. MayMark (question_of frame) c found n (Base (hop.Pass s x p n Generates))) (sym to_is)
        (subst (λ n. MayMark (question_of frame) c found (call_after frame.links.now.backward x)
        (Base (hop.Pass n x p (call_after frame.links.now.backward x) Generates))) (sym s_is)
        (may_generate c site x p call based made))
