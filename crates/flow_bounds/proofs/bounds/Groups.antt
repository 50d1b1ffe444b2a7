-- A group's frame bounds its columns
use Rattle.std.proofs.Common.{◌≡◌, ◌<◌, ◌≤◌, ◌||◌, ℕ, Bool, true, false, List, length, slice_index, refl, sym, ap, subst, ◌∙◌, arith}
use Rattle.bit_rows.specs.Words.{has_bit}
use Rattle.flow_graph.specs.Analyses.{is_backward}
use Rattle.flow_graph.specs.Points.{point_count}
use Rattle.flow_graph.specs.declared.edge.Edge.TheVariants.{Step}
use Rattle.flow_graph.specs.Paths.{IsEdge}
use Rattle.flow_links.specs.Shapes.{LinkedProgram}
use Rattle.gen_kill.specs.Selections.{Selection, bit_of, column_boundary, column_transfer}
use Rattle.summary_equations.specs.Equations.{Brought, CallsAt, Entered, HasFlag, Preserved}
use Rattle.flow_bounds.specs.Bounds.{IsAbove, IsBelow}
use Rattle.flow_bounds.specs.Clauses.{IsPointInside, IsTaken, is_called, is_inside, leads_back, lets_through, shape_in, step_gens, step_kills, step_statement}
use Rattle.flow_regions.specs.code.Effects.{AreTold, has_effect}
use Rattle.flow_regions.specs.code.Regions.{HoldsTouched}
use Rattle.flow_bounds.specs.code.Exact.{IsExact}
use Rattle.flow_bounds.specs.code.Frames.{IsFrame}
use Rattle.flow_regions.specs.declared.effects.Does.{Does}
use Rattle.flow_regions.specs.declared.effects.Does.TheVariants.{Generates, Kills}
use Rattle.flow_bounds.specs.declared.frame.Frame.{Frame}
use Rattle.flow_bounds.proofs.bounds.Transfers.{boundary_is, gen_is, kill_is, told_at}
use Rattle.flow_bounds.proofs.telling.Statements.{statement_here}
use Rattle.flow_regions.proofs.words_put.Telling.{affects}

-- by the value of a test, which is not true
false_if_never : (b : Bool) → (b ≡ true → ⊥) → b ≡ false
false_if_never true never = absurd (never refl)
false_if_never false never = refl

clash : (b : Bool) → b ≡ false → b ≡ true → ⊥
clash b one other = cc (sym one ∙ other)

module _ (selection : Selection) (frame : Frame) (columns : List ℕ) (is_frame : IsFrame frame)
    (linked : frame.links.now ≡ record { program = selection.program; backward = is_backward selection.analysis }) (few : length columns ≤ 64)
    (touched : HoldsTouched selection (shape_in frame) columns frame.inside.now (point_count frame.links.now.program))
    (gens : AreTold selection Generates columns (length columns) frame.places.now (length frame.points.now) frame.gens.now)
    (kills : AreTold selection Kills columns (length columns) frame.places.now (length frame.points.now) frame.kills.now)
    (boundary : (k : ℕ) → k < length columns → has_bit frame.boundary k ≡ column_boundary selection (slice_index columns k)) where
  program_is : selection.program ≡ frame.links.now.program
  program_is = sym (ap (λ (l : LinkedProgram). l.program) linked)

  backward_is : frame.links.now.backward ≡ is_backward selection.analysis
  backward_is = ap (λ (l : LinkedProgram). l.backward) linked

  points_are : point_count frame.links.now.program ≡ point_count selection.program
  points_are = ap point_count (sym program_is)

  -- what is told of a step is what its statement does
  step_told : (does : Does) (words : List ℕ) → AreTold selection does columns (length columns) frame.places.now (length frame.points.now) words
      → (x y k : ℕ) → IsEdge (shape_in frame) (Step x y) → IsPointInside frame x → k < length columns
      → has_bit (slice_index words (slice_index frame.places.now (step_statement frame.links.now.backward x y))) k
      ≡ has_effect selection does (step_statement (is_backward selection.analysis) x y) (slice_index columns k)
  step_told does words told x y k edge inside under =
      let here = statement_here frame x y is_frame edge inside in
      told_at frame selection columns is_frame program_is (point_count frame.links.now.program) points_are few touched does words told
      (step_statement frame.links.now.backward x y) k here.0 here.1 under
      ∙ ap (λ b. has_effect selection does (step_statement b x y) (slice_index columns k)) backward_is

  pub step_gens_is : (x y k : ℕ) → IsEdge (shape_in frame) (Step x y) → IsPointInside frame x → k < length columns
      → step_gens frame x y k ≡ (column_transfer selection (slice_index columns k)).gen x y
  step_gens_is x y k edge inside under =
      step_told Generates frame.gens.now gens x y k edge inside under ∙ sym (gen_is selection (slice_index columns k) x y)

  pub step_kills_is : (x y k : ℕ) → IsEdge (shape_in frame) (Step x y) → IsPointInside frame x → k < length columns
      → step_kills frame x y k ≡ (column_transfer selection (slice_index columns k)).kill x y
  step_kills_is x y k edge inside under =
      step_told Kills frame.kills.now kills x y k edge inside under ∙ sym (kill_is selection (slice_index columns k) x y)

  -- no statement outside does it
  none_done : (does : Does) (x y k : ℕ) → IsEdge (shape_in frame) (Step x y) → is_inside frame ((shape_in frame).procedure_of x) ≡ false
      → k < length columns → has_effect selection does (step_statement (is_backward selection.analysis) x y) (slice_index columns k) ≡ false
  none_done does x y k edge outside under = false_if_never _ (λ has.
      let range = is_frame.numbered.edge_in_range (Step x y) edge in
      let same = is_frame.numbered.formed.step_inside x y edge in
      clash _ (outside_at (is_backward selection.analysis) x y same outside)
      (touched k (step_statement (is_backward selection.analysis) x y) under (either_low (is_backward selection.analysis) x y range.0 range.1)
      (affects selection does (step_statement (is_backward selection.analysis) x y) (slice_index columns k) has)))
    where
      outside_at : (backward : Bool) (a b : ℕ) → (shape_in frame).procedure_of a ≡ (shape_in frame).procedure_of b
          → is_inside frame ((shape_in frame).procedure_of a) ≡ false
          → is_inside frame ((shape_in frame).procedure_of (step_statement backward a b)) ≡ false
      outside_at true a b same out = subst (λ p. is_inside frame p ≡ false) same out
      outside_at false a b same out = out

      either_low : (backward : Bool) (a b : ℕ) → a < point_count frame.links.now.program → b < point_count frame.links.now.program
          → step_statement backward a b < point_count frame.links.now.program
      either_low true a b one other = other
      either_low false a b one other = one

  pub none_outside : (x y k : ℕ) → IsEdge (shape_in frame) (Step x y) → is_inside frame ((shape_in frame).procedure_of x) ≡ false → k < length columns
      → (column_transfer selection (slice_index columns k)).gen x y ≡ false
  none_outside x y k edge outside under = gen_is selection (slice_index columns k) x y ∙ none_done Generates x y k edge outside under

  pub none_killed_outside : (x y k : ℕ) → IsEdge (shape_in frame) (Step x y) → is_inside frame ((shape_in frame).procedure_of x) ≡ false
      → k < length columns → (column_transfer selection (slice_index columns k)).kill x y ≡ false
  none_killed_outside x y k edge outside under = kill_is selection (slice_index columns k) x y ∙ none_done Kills x y k edge outside under

  pub transfer_boundary : (k : ℕ) → k < length columns → (column_transfer selection (slice_index columns k)).boundary ≡ has_bit frame.boundary k
  transfer_boundary k under = boundary_is selection.program selection.analysis (bit_of selection (slice_index columns k)) ∙ sym (boundary k under)

  pub columns_are_exact : (k : ℕ) → k < length columns → IsExact frame (column_transfer selection (slice_index columns k)) k
  columns_are_exact k under = record {
    gens = λ x y edge inside. step_gens_is x y k edge inside under;
    kills = λ x y edge inside. step_kills_is x y k edge inside under;
    none_generated = λ x y edge outside. none_outside x y k edge outside under;
    none_killed = λ x y edge outside. none_killed_outside x y k edge outside under;
    boundary = transfer_boundary k under;
  }

  module _ (joined : frame.joined ≡ true) (taken : (x : ℕ) → x < point_count frame.links.now.program → IsTaken frame x)
      (through : (p k : ℕ) → p < (shape_in frame).procedures → k < 64 → lets_through frame p k ≡ true)
      (called : (site x p : ℕ) → CallsAt (shape_in frame) site x p → is_inside frame ((shape_in frame).procedure_of x) ≡ false
      → is_inside frame p ≡ true → is_called frame p ≡ true)
      (leads : (site x p : ℕ) → CallsAt (shape_in frame) site x p → (is_inside frame p || leads_back frame p) ≡ true
      → leads_back frame ((shape_in frame).procedure_of x) ≡ true) where
    pub columns_are_above : (k : ℕ) → k < length columns → IsAbove frame (column_transfer selection (slice_index columns k)) k
    columns_are_above k under = record {
      joined = joined;
      taken = λ x there inside. taken x there;
      gens = λ x y edge inside is. step_gens_is x y k edge inside under ∙ is;
      kills = λ x y edge inside is. step_kills_is x y k edge inside under ∙ is;
      outside = λ x y edge outside. none_outside x y k edge outside under;
      boundary = λ is. sym (transfer_boundary k under) ∙ is;
      through = λ p there. through p k there (omega (arith, under, few));
      called = called;
      leads = leads;
    }

  module _ (joined : frame.joined ≡ false) (taken : (x : ℕ) → IsTaken frame x → HasFlag (shape_in frame) x)
      (through : (p k : ℕ) → p < (shape_in frame).procedures → k < length columns → lets_through frame p k ≡ true
      → Preserved (shape_in frame) (column_transfer selection (slice_index columns k)).kill ((shape_in frame).exit p))
      (called : (p : ℕ) → is_called frame p ≡ false) (leads : (p : ℕ) → leads_back frame p ≡ false)
      (hung : (p k : ℕ) → k < length columns → has_bit (slice_index frame.hung.now p) k ≡ true
      → Entered (shape_in frame) p × Brought (shape_in frame) (column_transfer selection (slice_index columns k)) p) where
    pub columns_are_below : (k : ℕ) → k < length columns → IsBelow frame (column_transfer selection (slice_index columns k)) k
    columns_are_below k under = record {
      joined = joined;
      taken = taken;
      gens = λ x y edge inside is. sym (step_gens_is x y k edge inside under) ∙ is;
      kills = λ x y edge inside is. sym (step_kills_is x y k edge inside under) ∙ is;
      boundary = λ is. transfer_boundary k under ∙ is;
      through = λ p there lets. through p k there under lets;
      called = called;
      leads = leads;
      hung = λ p has. hung p k under has;
    }
