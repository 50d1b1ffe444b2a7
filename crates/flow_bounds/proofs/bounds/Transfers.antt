-- A column's transfer by the points of statements
use Rattle.std.proofs.Common.{◌≡◌, ◌<◌, ◌≤◌, ℕ, Bool, true, false, List, length, slice_index, refl, sym, ap, subst, ◌∙◌, arith}
use Rattle.bit_rows.specs.Words.{has_bit}
use Rattle.flow_graph.specs.Analyses.{is_backward}
use Rattle.flow_graph.specs.declared.analysis.Analysis.{Analysis}
use Rattle.flow_graph.specs.declared.analysis.Analysis.TheVariants.{Reach, Live, Avail, Busy}
use Rattle.flow_graph.specs.Points.{point_count}
use Rattle.flow_graph.specs.Problems.{may_boundary, may_gens, may_kills, may_transfer}
use Rattle.gen_kill.specs.Selections.{Selection, bit_of, column_transfer}
use Rattle.tac_program.specs.Programs.{Program}
use Rattle.flow_bounds.specs.Clauses.{IsPointInside, shape_in, step_statement}
use Rattle.flow_regions.specs.code.Effects.{AreTold, has_effect}
use Rattle.flow_bounds.specs.code.Frames.{IsFrame}
use Rattle.flow_regions.specs.code.Regions.{HoldsTouched}
use Rattle.flow_regions.specs.declared.effects.Does.{Does}
use Rattle.flow_regions.specs.declared.effects.Does.TheVariants.{Generates, Kills}
use Rattle.flow_bounds.specs.declared.frame.Frame.{Frame}
use Rattle.flow_regions.proofs.words_put.Telling.{affects}

gens_are : (program : Program) (a : Analysis) (bit x y : ℕ)
    → (may_transfer program a bit).gen x y ≡ may_gens (record { program = program; analysis = a }) (step_statement (is_backward a) x y) bit
gens_are program Reach bit x y = refl
gens_are program Live bit x y = refl
gens_are program Avail bit x y = refl
gens_are program Busy bit x y = refl

kills_are : (program : Program) (a : Analysis) (bit x y : ℕ)
    → (may_transfer program a bit).kill x y ≡ may_kills (record { program = program; analysis = a }) (step_statement (is_backward a) x y) bit
kills_are program Reach bit x y = refl
kills_are program Live bit x y = refl
kills_are program Avail bit x y = refl
kills_are program Busy bit x y = refl

pub boundary_is : (program : Program) (a : Analysis) (bit : ℕ) → (may_transfer program a bit).boundary ≡ may_boundary (record { program = program; analysis = a }) bit
boundary_is program Reach bit = refl
boundary_is program Live bit = refl
boundary_is program Avail bit = refl
boundary_is program Busy bit = refl

-- gen and kill of a step are what its statement does
pub gen_is : (selection : Selection) (column x y : ℕ)
    → (column_transfer selection column).gen x y ≡ has_effect selection Generates (step_statement (is_backward selection.analysis) x y) column
gen_is selection column x y = gens_are selection.program selection.analysis (bit_of selection column) x y

pub kill_is : (selection : Selection) (column x y : ℕ)
    → (column_transfer selection column).kill x y ≡ has_effect selection Kills (step_statement (is_backward selection.analysis) x y) column
kill_is selection column x y = kills_are selection.program selection.analysis (bit_of selection column) x y

same_bool : (a b : Bool) → (a ≡ true → b ≡ true) → (b ≡ true → a ≡ true) → a ≡ b
same_bool true b one other = sym (one refl)
same_bool false true one other = other refl
same_bool false false one other = refl

module _ (frame : Frame) (selection : Selection) (columns : List ℕ) (is_frame : IsFrame frame) (same : selection.program ≡ frame.links.now.program)
    (points : ℕ) (points_is : points ≡ point_count selection.program) (few : length columns ≤ 64)
    (touched : HoldsTouched selection (shape_in frame) columns frame.inside.now points) where
  there : (x : ℕ) → x < point_count frame.links.now.program → x < point_count selection.program
  there x low = subst (λ (p : Program). x < point_count p) (sym same) low

  -- words tell at a point inside exactly what its statement does
  pub told_at : (does : Does) (words : List ℕ) → AreTold selection does columns (length columns) frame.places.now (length frame.points.now) words
      → (x k : ℕ) → x < point_count frame.links.now.program → IsPointInside frame x → k < length columns
      → has_bit (slice_index words (slice_index frame.places.now x)) k ≡ has_effect selection does x (slice_index columns k)
  told_at does words told x k low inside under =
      let place = is_frame.placed x low inside in
      same_bool _ _
      (λ has.
      let of = (told.sound (slice_index frame.places.now x) k (omega (arith, under, few)) has).1 in
      let of_there : of.point < points = omega (arith, of.there, points_is) in
      let of_inside = touched k of.point under of_there (affects selection does of.point (slice_index columns k) of.has) in
      let of_low = subst (λ (p : Program). of.point < point_count p) same of.there in
      let back = is_frame.placed of.point of_low of_inside in
      let one : of.point ≡ x = sym back.1 ∙ (ap (slice_index frame.points.now) of.at ∙ place.1) in
      subst (λ y. has_effect selection does y (slice_index columns k) ≡ true) one of.has)
      (λ does_it. told.complete x k (there x low) place.0 under does_it)
