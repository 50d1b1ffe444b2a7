-- Ways through callees, and where there is none
use Rattle.std.proofs.Common.{◌≡◌, ◌<◌, ℕ, Bool, true, false, List, refl, sym, ◌∙◌, ap, subst}
use Rattle.flow_graph.specs.declared.edge.Edge.{Edge}
use Rattle.flow_graph.specs.MatchedPaths.{IsMatchedPath, IsPathFromEntry}
use Rattle.flow_graph.specs.Paths.{Shape, Transfer, HasPath}
use Rattle.flow_graph.specs.WellFormed.{IsWellFormed}
use Rattle.summary_equations.specs.Equations.{CallsAt, Generated, Preserved, Reached}
use Rattle.summary_equations.proofs.paths.Meet.{solution_is_meet, summaries_are_paths}
use Rattle.flow_why.specs.Witnesses.{IsNeverPassed, IsThrough, IsThroughWitness}
use Rattle.flow_why.specs.code.Found.{Found, Has}
use Rattle.flow_why.specs.code.Frames.{question_of, transfer_for}
use Rattle.flow_why.specs.code.Marked.{BaseHas, is_inner}
use Rattle.flow_why.specs.code.Moves.{Lead, effect_between}
use Rattle.flow_why.specs.code.Trails.{AreHops, AreInnerHops, claim_effect}
use Rattle.flow_why.specs.code.Closed.{Scope, whole_scope}
use Rattle.flow_why.specs.code.Ways.{IsAnsweredIn}
use Rattle.flow_why.specs.declared.claim.Claim.{Claim}
use Rattle.flow_why.specs.declared.claim.Claim.TheVariants as claim
use Rattle.flow_why.specs.declared.frame.Frame.{Frame}
use Rattle.flow_why.specs.declared.hop.Effect.TheVariants.{Reaches, Generates, Preserves}
use Rattle.flow_why.specs.declared.hop.Hop.{Hop}
use Rattle.flow_why.proofs.solutions.Complete.{all_generated, all_preserved}
use Rattle.flow_why.proofs.solutions.Frames.{found_all}
use Rattle.flow_why.proofs.unfoldings.Moving.{through_of}

module _ (shape : Shape) (transfer : Transfer) (well : IsWellFormed shape) (p : ℕ) (there : p < shape.procedures) where
  -- a path through a procedure is one from the entry of its exit's procedure
  from_entry : (path : List Edge) → IsMatchedPath shape (shape.entry p) path (shape.exit p) → IsPathFromEntry shape path (shape.exit p)
  from_entry path matched = subst (λ q. IsMatchedPath shape (shape.entry q) path (shape.exit p)) (sym (well.exit_inside p there)) matched

  inside : shape.procedure_of (shape.exit p) < shape.procedures
  inside = subst (λ q. q < shape.procedures) (sym (well.exit_inside p there)) there

  reached_exit : (path : List Edge) → IsThrough shape transfer p Reaches path → Reached shape (shape.exit p)
  reached_exit path through = (summaries_are_paths shape transfer (shape.exit p) well inside).0.1 (path, from_entry path through.0)

  generated_exit : (path : List Edge) → IsThrough shape transfer p Generates path → Generated shape transfer (shape.exit p)
  generated_exit path through = (summaries_are_paths shape transfer (shape.exit p) well inside).2.1 (path, from_entry path through.0, through.1)

  preserved_exit : (path : List Edge) → IsThrough shape transfer p Preserves path → Preserved shape transfer.kill (shape.exit p)
  preserved_exit path through = (summaries_are_paths shape transfer (shape.exit p) well inside).1.1 (path, from_entry path through.0, through.1)

  -- hops from an entry to the procedure's exit begin at its entry
  at_entry : (start : ℕ) (q : ℕ) → q < shape.procedures → start ≡ shape.entry q → shape.procedure_of start ≡ shape.procedure_of (shape.exit p)
      → start ≡ shape.entry p
  at_entry start q low at same =
      let first : shape.procedure_of start ≡ q = ap shape.procedure_of at ∙ well.entry_inside q low in
      at ∙ ap shape.entry (sym first ∙ (same ∙ well.exit_inside p there))

  pub through_start : (start q : ℕ) (v w : Bool) (hops : List Hop) → q < shape.procedures → start ≡ shape.entry q
      → Lead shape transfer true start v hops (shape.exit p) w → IsThroughWitness shape transfer p (effect_between v w) hops
  through_start start q v w hops low at lead =
      through_of shape transfer v w p hops
      (subst (λ x. Lead shape transfer true x v hops (shape.exit p) w) (at_entry start q low at (lead.inside refl)) lead)

module _ (frame : Frame) (found : Found) (is : IsAnsweredIn frame found) (whole : (question_of frame).scope ≡ whole_scope) (p : ℕ) where
  based_exit : (c : Claim) (site x : ℕ) → CallsAt (question_of frame).shape site x p → BaseHas frame.base.now c x
      → BaseHas frame.base.now claim.Generated ((question_of frame).shape.entry ((question_of frame).shape.procedure_of
      ((question_of frame).shape.exit p)))
  based_exit c site x call here =
      subst (λ q. BaseHas frame.base.now claim.Generated ((question_of frame).shape.entry q))
      (sym (is.asked.formed.numbered.formed.exit_inside p call.0)) (is.ground.begins c site x p call here)

  based_point : (x : ℕ) → HasPath (question_of frame).shape x → BaseHas frame.base.now claim.Holds x
  based_point x path =
      is.ground.all_flags x
      ((solution_is_meet (question_of frame).shape (transfer_for frame) x is.asked.formed.numbered.formed).0.1 path)

  pub never_reached : (BaseHas frame.base.now claim.Generated ((question_of frame).shape.exit p) → ⊥)
      → IsNeverPassed (question_of frame).shape (transfer_for frame) p Reaches
  never_reached never site x path call may through =
      never (is.ground.all_reached ((question_of frame).shape.exit p)
      (reached_exit (question_of frame).shape (transfer_for frame) is.asked.formed.numbered.formed p call.0 path through)
      (based_exit claim.Holds site x call (based_point x may)))

  pub never_generated : (Has found claim.Generated ((question_of frame).shape.exit p) → ⊥)
      → IsNeverPassed (question_of frame).shape (transfer_for frame) p Generates
  never_generated never site x path call may through =
      never (all_generated (question_of frame).shape (transfer_for frame) (question_of frame).scope is.asked.formed.numbered.formed (BaseHas frame.base.now)
      (Has found)
      is.complete.closed is.complete.begun is.ground ((question_of frame).shape.exit p)
      (generated_exit (question_of frame).shape (transfer_for frame) is.asked.formed.numbered.formed p call.0 path through)
      (based_exit claim.Holds site x call (based_point x may)))

  pub never_preserved : (Has found claim.Preserved ((question_of frame).shape.exit p) → ⊥)
      → IsNeverPassed (question_of frame).shape (transfer_for frame) p Preserves
  never_preserved never site x path call may through =
      let member = (solution_is_meet (question_of frame).shape (transfer_for frame) x is.asked.formed.numbered.formed).1.1 may in
      never (all_preserved (question_of frame).shape (transfer_for frame) (question_of frame).scope is.asked.formed.numbered.formed (BaseHas frame.base.now)
      (Has found)
      is.complete.closed ((question_of frame).shape.exit p)
      (preserved_exit (question_of frame).shape (transfer_for frame) is.asked.formed.numbered.formed p call.0 path through)
      (subst (λ q. Has found claim.Preserved ((question_of frame).shape.entry q)) (sym (is.asked.formed.numbered.formed.exit_inside p call.0))
      (is.complete.closed.begin claim.Holds site x p call (ap (λ (s : Scope). s.kept p) whole)
      (found_all frame found is x member (ap (λ (s : Scope). s.skipped ((question_of frame).shape.procedure_of x)) whole)))))

  pub never_found : (c : Claim) → is_inner c ≡ true → (Has found c ((question_of frame).shape.exit p) → ⊥)
      → IsNeverPassed (question_of frame).shape (transfer_for frame) p (claim_effect c)
  never_found claim.Holds inner never = absurd (cc inner)
  never_found claim.Generated inner never = never_generated never
  never_found claim.Preserved inner never = never_preserved never

  -- the hops that are found are through the procedure
  pub found_passes : (c : Claim) (hops : List Hop) → is_inner c ≡ true → p < (question_of frame).shape.procedures
      → AreHops (question_of frame) c ((question_of frame).shape.exit p) hops
      → IsThroughWitness (question_of frame).shape (transfer_for frame) p (claim_effect c) hops
  found_passes claim.Holds hops inner there hops_are = absurd (cc inner)
  found_passes claim.Generated hops inner there hops_are =
      through_start (question_of frame).shape (transfer_for frame) is.asked.formed.numbered.formed p there hops_are.start
      hops_are.is.1.0 false true hops hops_are.is.1.1 hops_are.is.1.2
      (subst (λ v. Lead (question_of frame).shape (transfer_for frame) true hops_are.start v hops
      ((question_of frame).shape.exit p) true) hops_are.is.0 hops_are.lead)
  found_passes claim.Preserved hops inner there hops_are =
      through_start (question_of frame).shape (transfer_for frame) is.asked.formed.numbered.formed p there hops_are.start
      hops_are.is.1.0 true true hops hops_are.is.1.1 hops_are.is.1.2
      (subst (λ v. Lead (question_of frame).shape (transfer_for frame) true hops_are.start v hops
      ((question_of frame).shape.exit p) true) hops_are.is.0 hops_are.lead)

  pub reached_passes : (hops : List Hop) → p < (question_of frame).shape.procedures
      → AreInnerHops (question_of frame) ((question_of frame).shape.exit p) hops
      → IsThroughWitness (question_of frame).shape (transfer_for frame) p Reaches hops
  reached_passes hops there hops_are =
      through_start (question_of frame).shape (transfer_for frame) is.asked.formed.numbered.formed p there hops_are.start
      hops_are.is.0 false false hops hops_are.is.1 hops_are.is.2 hops_are.lead
