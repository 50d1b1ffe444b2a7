-- The rules of a frame's clauses
use Rattle.std.proofs.Common.{◌≡◌, ◌⊎◌, ◌<◌, ◌&&◌, ℕ, Bool, true, false, not, List, slice_index, inl, inr, refl, sym, ap, ◌∙◌}
use Rattle.bit_rows.specs.Words.{has_bit}
use Rattle.flow_bounds.specs.Clauses.{InnerClause, OuterClause, ProcedureClause, RootClause, StepClause, always_cell, brought_cell, generated_cell}
use Rattle.flow_bounds.specs.Clauses.{outside_brought_cell, outside_generated_cell, preserved_cell, is_called, is_inside, leads_back, lets_through}
use Rattle.flow_bounds.specs.Clauses.{shape_in, step_gens, step_kills}
use Rattle.flow_bounds.specs.Clauses.{preserved_by_step, generated_before_step, generated_by_step, preserved_by_call, generated_before_call}
use Rattle.flow_bounds.specs.Clauses.{generated_by_callee, brought_where_generated, brought_where_preserved, preserved_past, generated_past}
use Rattle.flow_bounds.specs.Clauses.{generated_outside, brought_outside_where_generated, brought_outside_where_preserved, preserved_at_entry}
use Rattle.flow_bounds.specs.Clauses.{brought_by_tree, handed_out, brought_from_outside, brought_by_boundary, brought_outside_by_boundary}
use Rattle.flow_bounds.specs.Clauses.{brought_outside_where_handed_out}
use Rattle.std.proofs.lemmas.Bool.{and_parts}
use Rattle.flow_bounds.proofs.rules.Spreading.{and_true}
use Rattle.flow_bounds.specs.code.Frames.{Adds, RuleClause}
use Rattle.flow_bounds.specs.declared.frame.Frame.{Frame}
use Rattle.flow_bounds.specs.declared.rule.Rule.{Rule}
use Rattle.flow_bounds.proofs.telling.Adding.{adds_as, adds_both, at_cells}

-- a rule with these parts
abbrev pub rule_of : ℕ → ℕ → ℕ → ℕ → Rule
rule_of to first second mask = record { to = to; first = first; second = second; mask = mask }

-- the clauses of either
abbrev pub Either : (ℕ → ℕ → ℕ → ℕ → Type 0) → (ℕ → ℕ → ℕ → ℕ → Type 0) → ℕ → ℕ → ℕ → ℕ → Type 0
Either H K bit to first second = H bit to first second ⊎ K bit to first second

pub adds_either : (n : ℕ) (H K : ℕ → ℕ → ℕ → ℕ → Type 0) (old between new : List Rule) → Adds n H old between → Adds n K between new → Adds n (Either H K) old new
adds_either n H K old between new = adds_both n H K (Either H K) old between new
    (λ bit to first second small holds. inl holds) (λ bit to first second small holds. inr holds) (λ bit to first second small holds. holds)

not_true_false : (b : Bool) → not b ≡ true → b ≡ false
not_true_false true is = absurd (cc is)
not_true_false false is = refl

module _ (frame : Frame) (x y : ℕ) (c0 c1 c2 c3 c4 m_kept m_made : ℕ)
    (c0_is : c0 ≡ preserved_cell frame y)
    (c1_is : c1 ≡ preserved_cell frame x)
    (c2_is : c2 ≡ always_cell frame)
    (c3_is : c3 ≡ generated_cell frame y)
    (c4_is : c4 ≡ generated_cell frame x)
    (m_kept_is : (bit : ℕ) → bit < 64 → has_bit m_kept bit ≡ not (step_kills frame x y bit))
    (m_made_is : (bit : ℕ) → bit < 64 → has_bit m_made bit ≡ (step_gens frame x y bit)) where
  abbrev step_rules : ℕ → ℕ → ℕ → ℕ → Type 0
  step_rules = Either (Either (RuleClause (rule_of c0 c1 c2 m_kept)) (RuleClause (rule_of c3 c4 c2 m_kept))) (RuleClause (rule_of c3 c2 c2 m_made))

  preserved_by_step_is : (bit to first second : ℕ) → bit < 64 → RuleClause (rule_of c0 c1 c2 m_kept) bit to first second → StepClause frame x y bit to first second
  preserved_by_step_is bit to first second small of =
      at_cells (StepClause frame x y bit) to first second _ _ _ (sym of.0 ∙ c0_is) (sym of.1 ∙ c1_is) (sym of.2 ∙ c2_is) (preserved_by_step (not_true_false _ (sym (m_kept_is bit small) ∙ of.3)))

  generated_before_step_is : (bit to first second : ℕ) → bit < 64 → RuleClause (rule_of c3 c4 c2 m_kept) bit to first second → StepClause frame x y bit to first second
  generated_before_step_is bit to first second small of =
      at_cells (StepClause frame x y bit) to first second _ _ _ (sym of.0 ∙ c3_is) (sym of.1 ∙ c4_is) (sym of.2 ∙ c2_is) (generated_before_step (not_true_false _ (sym (m_kept_is bit small) ∙ of.3)))

  generated_by_step_is : (bit to first second : ℕ) → bit < 64 → RuleClause (rule_of c3 c2 c2 m_made) bit to first second → StepClause frame x y bit to first second
  generated_by_step_is bit to first second small of =
      at_cells (StepClause frame x y bit) to first second _ _ _ (sym of.0 ∙ c3_is) (sym of.1 ∙ c2_is) (sym of.2 ∙ c2_is) (generated_by_step (sym (m_made_is bit small) ∙ of.3))

  step_from : (bit to first second : ℕ) → bit < 64 → step_rules bit to first second → StepClause frame x y bit to first second
  step_from bit to first second small (inl (inl (of))) = preserved_by_step_is bit to first second small of
  step_from bit to first second small (inl (inr (of))) = generated_before_step_is bit to first second small of
  step_from bit to first second small (inr (of)) = generated_by_step_is bit to first second small of

  step_back : (bit to first second : ℕ) → bit < 64 → StepClause frame x y bit to first second → step_rules bit to first second
  step_back bit _ _ _ small (preserved_by_step un) = inl (inl (c0_is, c1_is, c2_is, m_kept_is bit small ∙ ap not un))
  step_back bit _ _ _ small (generated_before_step un) = inl (inr (c3_is, c4_is, c2_is, m_kept_is bit small ∙ ap not un))
  step_back bit _ _ _ small (generated_by_step has) = inr (c3_is, c2_is, c2_is, m_made_is bit small ∙ has)

  pub step_adds : (n : ℕ) (a0 a1 a2 a3 : List Rule)
      → Adds n (RuleClause (rule_of c0 c1 c2 m_kept)) a0 a1
      → Adds n (RuleClause (rule_of c3 c4 c2 m_kept)) a1 a2
      → Adds n (RuleClause (rule_of c3 c2 c2 m_made)) a2 a3
      → Adds n (StepClause frame x y) a0 a3
  step_adds n a0 a1 a2 a3 p0 p1 p2 =
      adds_as n step_rules (StepClause frame x y) a0 a3 step_from step_back
      (adds_either n (Either (RuleClause (rule_of c0 c1 c2 m_kept)) (RuleClause (rule_of c3 c4 c2 m_kept))) (RuleClause (rule_of c3 c2 c2 m_made)) a0 a2 a3 (adds_either n (RuleClause (rule_of c0 c1 c2 m_kept)) (RuleClause (rule_of c3 c4 c2 m_kept)) a0 a1 a2 p0 p1) p2)

module _ (frame : Frame) (x callee z : ℕ) (c0 c1 c2 c3 c4 c5 c6 c7 c8 m_all : ℕ)
    (c0_is : c0 ≡ preserved_cell frame z)
    (c1_is : c1 ≡ preserved_cell frame x)
    (c2_is : c2 ≡ preserved_cell frame ((shape_in frame).exit callee))
    (c3_is : c3 ≡ generated_cell frame z)
    (c4_is : c4 ≡ generated_cell frame x)
    (c5_is : c5 ≡ generated_cell frame ((shape_in frame).exit callee))
    (c6_is : c6 ≡ always_cell frame)
    (c7_is : c7 ≡ brought_cell frame callee)
    (c8_is : c8 ≡ brought_cell frame ((shape_in frame).procedure_of x))
    (m_all_is : (bit : ℕ) → bit < 64 → has_bit m_all bit ≡ true) where
  abbrev inner_rules : ℕ → ℕ → ℕ → ℕ → Type 0
  inner_rules = Either (Either (Either (Either (RuleClause (rule_of c0 c1 c2 m_all)) (RuleClause (rule_of c3 c4 c2 m_all))) (RuleClause (rule_of c3 c5 c6 m_all))) (RuleClause (rule_of c7 c4 c6 m_all))) (RuleClause (rule_of c7 c8 c1 m_all))

  preserved_by_call_is : (bit to first second : ℕ) → bit < 64 → RuleClause (rule_of c0 c1 c2 m_all) bit to first second → InnerClause frame x callee z bit to first second
  preserved_by_call_is bit to first second small of =
      at_cells (InnerClause frame x callee z bit) to first second _ _ _ (sym of.0 ∙ c0_is) (sym of.1 ∙ c1_is) (sym of.2 ∙ c2_is) preserved_by_call

  generated_before_call_is : (bit to first second : ℕ) → bit < 64 → RuleClause (rule_of c3 c4 c2 m_all) bit to first second → InnerClause frame x callee z bit to first second
  generated_before_call_is bit to first second small of =
      at_cells (InnerClause frame x callee z bit) to first second _ _ _ (sym of.0 ∙ c3_is) (sym of.1 ∙ c4_is) (sym of.2 ∙ c2_is) generated_before_call

  generated_by_callee_is : (bit to first second : ℕ) → bit < 64 → RuleClause (rule_of c3 c5 c6 m_all) bit to first second → InnerClause frame x callee z bit to first second
  generated_by_callee_is bit to first second small of =
      at_cells (InnerClause frame x callee z bit) to first second _ _ _ (sym of.0 ∙ c3_is) (sym of.1 ∙ c5_is) (sym of.2 ∙ c6_is) generated_by_callee

  brought_where_generated_is : (bit to first second : ℕ) → bit < 64 → RuleClause (rule_of c7 c4 c6 m_all) bit to first second → InnerClause frame x callee z bit to first second
  brought_where_generated_is bit to first second small of =
      at_cells (InnerClause frame x callee z bit) to first second _ _ _ (sym of.0 ∙ c7_is) (sym of.1 ∙ c4_is) (sym of.2 ∙ c6_is) brought_where_generated

  brought_where_preserved_is : (bit to first second : ℕ) → bit < 64 → RuleClause (rule_of c7 c8 c1 m_all) bit to first second → InnerClause frame x callee z bit to first second
  brought_where_preserved_is bit to first second small of =
      at_cells (InnerClause frame x callee z bit) to first second _ _ _ (sym of.0 ∙ c7_is) (sym of.1 ∙ c8_is) (sym of.2 ∙ c1_is) brought_where_preserved

  inner_from : (bit to first second : ℕ) → bit < 64 → inner_rules bit to first second → InnerClause frame x callee z bit to first second
  inner_from bit to first second small (inl (inl (inl (inl (of))))) = preserved_by_call_is bit to first second small of
  inner_from bit to first second small (inl (inl (inl (inr (of))))) = generated_before_call_is bit to first second small of
  inner_from bit to first second small (inl (inl (inr (of)))) = generated_by_callee_is bit to first second small of
  inner_from bit to first second small (inl (inr (of))) = brought_where_generated_is bit to first second small of
  inner_from bit to first second small (inr (of)) = brought_where_preserved_is bit to first second small of

  inner_back : (bit to first second : ℕ) → bit < 64 → InnerClause frame x callee z bit to first second → inner_rules bit to first second
  inner_back bit _ _ _ small preserved_by_call = inl (inl (inl (inl (c0_is, c1_is, c2_is, m_all_is bit small))))
  inner_back bit _ _ _ small generated_before_call = inl (inl (inl (inr (c3_is, c4_is, c2_is, m_all_is bit small))))
  inner_back bit _ _ _ small generated_by_callee = inl (inl (inr (c3_is, c5_is, c6_is, m_all_is bit small)))
  inner_back bit _ _ _ small brought_where_generated = inl (inr (c7_is, c4_is, c6_is, m_all_is bit small))
  inner_back bit _ _ _ small brought_where_preserved = inr (c7_is, c8_is, c1_is, m_all_is bit small)

  pub inner_adds : (n : ℕ) (a0 a1 a2 a3 a4 a5 : List Rule)
      → Adds n (RuleClause (rule_of c0 c1 c2 m_all)) a0 a1
      → Adds n (RuleClause (rule_of c3 c4 c2 m_all)) a1 a2
      → Adds n (RuleClause (rule_of c3 c5 c6 m_all)) a2 a3
      → Adds n (RuleClause (rule_of c7 c4 c6 m_all)) a3 a4
      → Adds n (RuleClause (rule_of c7 c8 c1 m_all)) a4 a5
      → Adds n (InnerClause frame x callee z) a0 a5
  inner_adds n a0 a1 a2 a3 a4 a5 p0 p1 p2 p3 p4 =
      adds_as n inner_rules (InnerClause frame x callee z) a0 a5 inner_from inner_back
      (adds_either n (Either (Either (Either (RuleClause (rule_of c0 c1 c2 m_all)) (RuleClause (rule_of c3 c4 c2 m_all))) (RuleClause (rule_of c3 c5 c6 m_all))) (RuleClause (rule_of c7 c4 c6 m_all))) (RuleClause (rule_of c7 c8 c1 m_all)) a0 a4 a5 (adds_either n (Either (Either (RuleClause (rule_of c0 c1 c2 m_all)) (RuleClause (rule_of c3 c4 c2 m_all))) (RuleClause (rule_of c3 c5 c6 m_all))) (RuleClause (rule_of c7 c4 c6 m_all)) a0 a3 a4 (adds_either n (Either (RuleClause (rule_of c0 c1 c2 m_all)) (RuleClause (rule_of c3 c4 c2 m_all))) (RuleClause (rule_of c3 c5 c6 m_all)) a0 a2 a3 (adds_either n (RuleClause (rule_of c0 c1 c2 m_all)) (RuleClause (rule_of c3 c4 c2 m_all)) a0 a1 a2 p0 p1) p2) p3) p4)

module _ (frame : Frame) (x callee z : ℕ) (c0 c1 c2 c3 c4 c5 c6 c7 m_through m_back : ℕ)
    (c0_is : c0 ≡ preserved_cell frame z)
    (c1_is : c1 ≡ preserved_cell frame x)
    (c2_is : c2 ≡ always_cell frame)
    (c3_is : c3 ≡ generated_cell frame z)
    (c4_is : c4 ≡ generated_cell frame x)
    (c5_is : c5 ≡ outside_generated_cell frame)
    (c6_is : c6 ≡ outside_brought_cell frame)
    (c7_is : c7 ≡ brought_cell frame ((shape_in frame).procedure_of x))
    (m_through_is : (bit : ℕ) → bit < 64 → has_bit m_through bit ≡ (lets_through frame callee bit))
    (m_back_is : (bit : ℕ) → bit < 64 → has_bit m_back bit ≡ (leads_back frame callee)) where
  abbrev outer_rules : ℕ → ℕ → ℕ → ℕ → Type 0
  outer_rules = Either (Either (Either (Either (RuleClause (rule_of c0 c1 c2 m_through)) (RuleClause (rule_of c3 c4 c2 m_through))) (RuleClause (rule_of c3 c5 c2 m_back))) (RuleClause (rule_of c6 c4 c2 m_back))) (RuleClause (rule_of c6 c7 c1 m_back))

  preserved_past_is : (bit to first second : ℕ) → bit < 64 → RuleClause (rule_of c0 c1 c2 m_through) bit to first second → OuterClause frame x callee z bit to first second
  preserved_past_is bit to first second small of =
      at_cells (OuterClause frame x callee z bit) to first second _ _ _ (sym of.0 ∙ c0_is) (sym of.1 ∙ c1_is) (sym of.2 ∙ c2_is) (preserved_past (sym (m_through_is bit small) ∙ of.3))

  generated_past_is : (bit to first second : ℕ) → bit < 64 → RuleClause (rule_of c3 c4 c2 m_through) bit to first second → OuterClause frame x callee z bit to first second
  generated_past_is bit to first second small of =
      at_cells (OuterClause frame x callee z bit) to first second _ _ _ (sym of.0 ∙ c3_is) (sym of.1 ∙ c4_is) (sym of.2 ∙ c2_is) (generated_past (sym (m_through_is bit small) ∙ of.3))

  generated_outside_is : (bit to first second : ℕ) → bit < 64 → RuleClause (rule_of c3 c5 c2 m_back) bit to first second → OuterClause frame x callee z bit to first second
  generated_outside_is bit to first second small of =
      at_cells (OuterClause frame x callee z bit) to first second _ _ _ (sym of.0 ∙ c3_is) (sym of.1 ∙ c5_is) (sym of.2 ∙ c2_is) (generated_outside (sym (m_back_is bit small) ∙ of.3))

  brought_outside_where_generated_is : (bit to first second : ℕ) → bit < 64 → RuleClause (rule_of c6 c4 c2 m_back) bit to first second → OuterClause frame x callee z bit to first second
  brought_outside_where_generated_is bit to first second small of =
      at_cells (OuterClause frame x callee z bit) to first second _ _ _ (sym of.0 ∙ c6_is) (sym of.1 ∙ c4_is) (sym of.2 ∙ c2_is) (brought_outside_where_generated (sym (m_back_is bit small) ∙ of.3))

  brought_outside_where_preserved_is : (bit to first second : ℕ) → bit < 64 → RuleClause (rule_of c6 c7 c1 m_back) bit to first second → OuterClause frame x callee z bit to first second
  brought_outside_where_preserved_is bit to first second small of =
      at_cells (OuterClause frame x callee z bit) to first second _ _ _ (sym of.0 ∙ c6_is) (sym of.1 ∙ c7_is) (sym of.2 ∙ c1_is) (brought_outside_where_preserved (sym (m_back_is bit small) ∙ of.3))

  outer_from : (bit to first second : ℕ) → bit < 64 → outer_rules bit to first second → OuterClause frame x callee z bit to first second
  outer_from bit to first second small (inl (inl (inl (inl (of))))) = preserved_past_is bit to first second small of
  outer_from bit to first second small (inl (inl (inl (inr (of))))) = generated_past_is bit to first second small of
  outer_from bit to first second small (inl (inl (inr (of)))) = generated_outside_is bit to first second small of
  outer_from bit to first second small (inl (inr (of))) = brought_outside_where_generated_is bit to first second small of
  outer_from bit to first second small (inr (of)) = brought_outside_where_preserved_is bit to first second small of

  outer_back : (bit to first second : ℕ) → bit < 64 → OuterClause frame x callee z bit to first second → outer_rules bit to first second
  outer_back bit _ _ _ small (preserved_past has) = inl (inl (inl (inl (c0_is, c1_is, c2_is, m_through_is bit small ∙ has))))
  outer_back bit _ _ _ small (generated_past has) = inl (inl (inl (inr (c3_is, c4_is, c2_is, m_through_is bit small ∙ has))))
  outer_back bit _ _ _ small (generated_outside has) = inl (inl (inr (c3_is, c5_is, c2_is, m_back_is bit small ∙ has)))
  outer_back bit _ _ _ small (brought_outside_where_generated has) = inl (inr (c6_is, c4_is, c2_is, m_back_is bit small ∙ has))
  outer_back bit _ _ _ small (brought_outside_where_preserved has) = inr (c6_is, c7_is, c1_is, m_back_is bit small ∙ has)

  pub outer_adds : (n : ℕ) (a0 a1 a2 a3 a4 a5 : List Rule)
      → Adds n (RuleClause (rule_of c0 c1 c2 m_through)) a0 a1
      → Adds n (RuleClause (rule_of c3 c4 c2 m_through)) a1 a2
      → Adds n (RuleClause (rule_of c3 c5 c2 m_back)) a2 a3
      → Adds n (RuleClause (rule_of c6 c4 c2 m_back)) a3 a4
      → Adds n (RuleClause (rule_of c6 c7 c1 m_back)) a4 a5
      → Adds n (OuterClause frame x callee z) a0 a5
  outer_adds n a0 a1 a2 a3 a4 a5 p0 p1 p2 p3 p4 =
      adds_as n outer_rules (OuterClause frame x callee z) a0 a5 outer_from outer_back
      (adds_either n (Either (Either (Either (RuleClause (rule_of c0 c1 c2 m_through)) (RuleClause (rule_of c3 c4 c2 m_through))) (RuleClause (rule_of c3 c5 c2 m_back))) (RuleClause (rule_of c6 c4 c2 m_back))) (RuleClause (rule_of c6 c7 c1 m_back)) a0 a4 a5 (adds_either n (Either (Either (RuleClause (rule_of c0 c1 c2 m_through)) (RuleClause (rule_of c3 c4 c2 m_through))) (RuleClause (rule_of c3 c5 c2 m_back))) (RuleClause (rule_of c6 c4 c2 m_back)) a0 a3 a4 (adds_either n (Either (RuleClause (rule_of c0 c1 c2 m_through)) (RuleClause (rule_of c3 c4 c2 m_through))) (RuleClause (rule_of c3 c5 c2 m_back)) a0 a2 a3 (adds_either n (RuleClause (rule_of c0 c1 c2 m_through)) (RuleClause (rule_of c3 c4 c2 m_through)) a0 a1 a2 p0 p1) p2) p3) p4)

module _ (frame : Frame) (procedure : ℕ) (c0 c1 c2 c3 c4 c5 m_all m_hung m_called : ℕ)
    (c0_is : c0 ≡ preserved_cell frame ((shape_in frame).entry procedure))
    (c1_is : c1 ≡ always_cell frame)
    (c2_is : c2 ≡ brought_cell frame procedure)
    (c3_is : c3 ≡ outside_generated_cell frame)
    (c4_is : c4 ≡ generated_cell frame ((shape_in frame).exit procedure))
    (c5_is : c5 ≡ outside_brought_cell frame)
    (m_all_is : (bit : ℕ) → bit < 64 → has_bit m_all bit ≡ true)
    (m_hung_is : (bit : ℕ) → bit < 64 → has_bit m_hung bit ≡ (has_bit (slice_index frame.hung.now procedure) bit))
    (m_called_is : (bit : ℕ) → bit < 64 → has_bit m_called bit ≡ (is_called frame procedure)) where
  abbrev procedure_rules : ℕ → ℕ → ℕ → ℕ → Type 0
  procedure_rules = Either (Either (Either (RuleClause (rule_of c0 c1 c1 m_all)) (RuleClause (rule_of c2 c1 c1 m_hung))) (RuleClause (rule_of c3 c4 c1 m_called))) (RuleClause (rule_of c2 c5 c1 m_called))

  preserved_at_entry_is : (bit to first second : ℕ) → bit < 64 → RuleClause (rule_of c0 c1 c1 m_all) bit to first second → ProcedureClause frame procedure bit to first second
  preserved_at_entry_is bit to first second small of =
      at_cells (ProcedureClause frame procedure bit) to first second _ _ _ (sym of.0 ∙ c0_is) (sym of.1 ∙ c1_is) (sym of.2 ∙ c1_is) preserved_at_entry

  brought_by_tree_is : (bit to first second : ℕ) → bit < 64 → RuleClause (rule_of c2 c1 c1 m_hung) bit to first second → ProcedureClause frame procedure bit to first second
  brought_by_tree_is bit to first second small of =
      at_cells (ProcedureClause frame procedure bit) to first second _ _ _ (sym of.0 ∙ c2_is) (sym of.1 ∙ c1_is) (sym of.2 ∙ c1_is) (brought_by_tree (sym (m_hung_is bit small) ∙ of.3))

  handed_out_is : (bit to first second : ℕ) → bit < 64 → RuleClause (rule_of c3 c4 c1 m_called) bit to first second → ProcedureClause frame procedure bit to first second
  handed_out_is bit to first second small of =
      at_cells (ProcedureClause frame procedure bit) to first second _ _ _ (sym of.0 ∙ c3_is) (sym of.1 ∙ c4_is) (sym of.2 ∙ c1_is) (handed_out (sym (m_called_is bit small) ∙ of.3))

  brought_from_outside_is : (bit to first second : ℕ) → bit < 64 → RuleClause (rule_of c2 c5 c1 m_called) bit to first second → ProcedureClause frame procedure bit to first second
  brought_from_outside_is bit to first second small of =
      at_cells (ProcedureClause frame procedure bit) to first second _ _ _ (sym of.0 ∙ c2_is) (sym of.1 ∙ c5_is) (sym of.2 ∙ c1_is) (brought_from_outside (sym (m_called_is bit small) ∙ of.3))

  procedure_from : (bit to first second : ℕ) → bit < 64 → procedure_rules bit to first second → ProcedureClause frame procedure bit to first second
  procedure_from bit to first second small (inl (inl (inl (of)))) = preserved_at_entry_is bit to first second small of
  procedure_from bit to first second small (inl (inl (inr (of)))) = brought_by_tree_is bit to first second small of
  procedure_from bit to first second small (inl (inr (of))) = handed_out_is bit to first second small of
  procedure_from bit to first second small (inr (of)) = brought_from_outside_is bit to first second small of

  procedure_back : (bit to first second : ℕ) → bit < 64 → ProcedureClause frame procedure bit to first second → procedure_rules bit to first second
  procedure_back bit _ _ _ small preserved_at_entry = inl (inl (inl (c0_is, c1_is, c1_is, m_all_is bit small)))
  procedure_back bit _ _ _ small (brought_by_tree has) = inl (inl (inr (c2_is, c1_is, c1_is, m_hung_is bit small ∙ has)))
  procedure_back bit _ _ _ small (handed_out has) = inl (inr (c3_is, c4_is, c1_is, m_called_is bit small ∙ has))
  procedure_back bit _ _ _ small (brought_from_outside has) = inr (c2_is, c5_is, c1_is, m_called_is bit small ∙ has)

  pub procedure_adds : (n : ℕ) (a0 a1 a2 a3 a4 : List Rule)
      → Adds n (RuleClause (rule_of c0 c1 c1 m_all)) a0 a1
      → Adds n (RuleClause (rule_of c2 c1 c1 m_hung)) a1 a2
      → Adds n (RuleClause (rule_of c3 c4 c1 m_called)) a2 a3
      → Adds n (RuleClause (rule_of c2 c5 c1 m_called)) a3 a4
      → Adds n (ProcedureClause frame procedure) a0 a4
  procedure_adds n a0 a1 a2 a3 a4 p0 p1 p2 p3 =
      adds_as n procedure_rules (ProcedureClause frame procedure) a0 a4 procedure_from procedure_back
      (adds_either n (Either (Either (RuleClause (rule_of c0 c1 c1 m_all)) (RuleClause (rule_of c2 c1 c1 m_hung))) (RuleClause (rule_of c3 c4 c1 m_called))) (RuleClause (rule_of c2 c5 c1 m_called)) a0 a3 a4 (adds_either n (Either (RuleClause (rule_of c0 c1 c1 m_all)) (RuleClause (rule_of c2 c1 c1 m_hung))) (RuleClause (rule_of c3 c4 c1 m_called)) a0 a2 a3 (adds_either n (RuleClause (rule_of c0 c1 c1 m_all)) (RuleClause (rule_of c2 c1 c1 m_hung)) a0 a1 a2 p0 p1) p2) p3)

module _ (frame : Frame) (c0 c1 c2 c3 m_inner m_outer m_joined : ℕ)
    (c0_is : c0 ≡ brought_cell frame (shape_in frame).root_procedure)
    (c1_is : c1 ≡ always_cell frame)
    (c2_is : c2 ≡ outside_brought_cell frame)
    (c3_is : c3 ≡ outside_generated_cell frame)
    (m_inner_is : (bit : ℕ) → bit < 64 → has_bit m_inner bit ≡ (is_inside frame (shape_in frame).root_procedure && has_bit frame.boundary bit))
    (m_outer_is : (bit : ℕ) → bit < 64 → has_bit m_outer bit ≡ (frame.joined && has_bit frame.boundary bit))
    (m_joined_is : (bit : ℕ) → bit < 64 → has_bit m_joined bit ≡ (frame.joined)) where
  abbrev root_rules : ℕ → ℕ → ℕ → ℕ → Type 0
  root_rules = Either (Either (RuleClause (rule_of c0 c1 c1 m_inner)) (RuleClause (rule_of c2 c1 c1 m_outer))) (RuleClause (rule_of c2 c3 c1 m_joined))

  brought_by_boundary_is : (bit to first second : ℕ) → bit < 64 → RuleClause (rule_of c0 c1 c1 m_inner) bit to first second → RootClause frame bit to first second
  brought_by_boundary_is bit to first second small of =
      let two = and_parts _ _ (sym (m_inner_is bit small) ∙ of.3) in
      at_cells (RootClause frame bit) to first second _ _ _ (sym of.0 ∙ c0_is) (sym of.1 ∙ c1_is) (sym of.2 ∙ c1_is) (brought_by_boundary two.1 two.0)

  brought_outside_by_boundary_is : (bit to first second : ℕ) → bit < 64 → RuleClause (rule_of c2 c1 c1 m_outer) bit to first second → RootClause frame bit to first second
  brought_outside_by_boundary_is bit to first second small of =
      let two = and_parts _ _ (sym (m_outer_is bit small) ∙ of.3) in
      at_cells (RootClause frame bit) to first second _ _ _ (sym of.0 ∙ c2_is) (sym of.1 ∙ c1_is) (sym of.2 ∙ c1_is) (brought_outside_by_boundary two.1 two.0)

  brought_outside_where_handed_out_is : (bit to first second : ℕ) → bit < 64 → RuleClause (rule_of c2 c3 c1 m_joined) bit to first second → RootClause frame bit to first second
  brought_outside_where_handed_out_is bit to first second small of =
      at_cells (RootClause frame bit) to first second _ _ _ (sym of.0 ∙ c2_is) (sym of.1 ∙ c3_is) (sym of.2 ∙ c1_is) (brought_outside_where_handed_out (sym (m_joined_is bit small) ∙ of.3))

  root_from : (bit to first second : ℕ) → bit < 64 → root_rules bit to first second → RootClause frame bit to first second
  root_from bit to first second small (inl (inl (of))) = brought_by_boundary_is bit to first second small of
  root_from bit to first second small (inl (inr (of))) = brought_outside_by_boundary_is bit to first second small of
  root_from bit to first second small (inr (of)) = brought_outside_where_handed_out_is bit to first second small of

  root_back : (bit to first second : ℕ) → bit < 64 → RootClause frame bit to first second → root_rules bit to first second
  root_back bit _ _ _ small (brought_by_boundary has test) = inl (inl (c0_is, c1_is, c1_is, m_inner_is bit small ∙ and_true _ _ test has))
  root_back bit _ _ _ small (brought_outside_by_boundary has test) = inl (inr (c2_is, c1_is, c1_is, m_outer_is bit small ∙ and_true _ _ test has))
  root_back bit _ _ _ small (brought_outside_where_handed_out has) = inr (c2_is, c3_is, c1_is, m_joined_is bit small ∙ has)

  pub root_adds : (n : ℕ) (a0 a1 a2 a3 : List Rule)
      → Adds n (RuleClause (rule_of c0 c1 c1 m_inner)) a0 a1
      → Adds n (RuleClause (rule_of c2 c1 c1 m_outer)) a1 a2
      → Adds n (RuleClause (rule_of c2 c3 c1 m_joined)) a2 a3
      → Adds n (RootClause frame) a0 a3
  root_adds n a0 a1 a2 a3 p0 p1 p2 =
      adds_as n root_rules (RootClause frame) a0 a3 root_from root_back
      (adds_either n (Either (RuleClause (rule_of c0 c1 c1 m_inner)) (RuleClause (rule_of c2 c1 c1 m_outer))) (RuleClause (rule_of c2 c3 c1 m_joined)) a0 a2 a3 (adds_either n (RuleClause (rule_of c0 c1 c1 m_inner)) (RuleClause (rule_of c2 c1 c1 m_outer)) a0 a1 a2 p0 p1) p2)
