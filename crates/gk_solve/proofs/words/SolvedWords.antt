-- The places of words are the bits that they stand for
use Rattle.std.proofs.Common.{◌≡◌, ◌<◌, ◌≤◌, ◌+◌, ◌-◌, ◌*◌, ◌↔◌, ◌&&◌, get_or, map, Bool, ℕ, List, [], arith, sym, ◌∙◌, subst, ap}
use Rattle.std.proofs.Math.ListN.{get_or-map}
use Rattle.std.proofs.lemmas.Bool.{lt-ltb}
use Rattle.bit_rows.specs.Words.{has_bit}
use Rattle.flow_graph.specs.Analyses.{is_backward}
use Rattle.flow_graph.specs.Problems.{may_shape}
use Rattle.gen_kill.specs.Selections.{Selection, bit_of, column_boundary, column_count, column_gens, column_kills, column_transfer, may_form}
use Rattle.flow_graph.specs.WellFormed.{AgreesOnSteps, IsWellFormed}
use Rattle.flow_graph.proofs.graphs.MayForms.{steps_have_statements}
use Rattle.flow_graph.specs.Points.{point_count}
use Rattle.flow_links.specs.Shapes.{LinkedProgram, directed_shape}
use Rattle.summary_equations.specs.Equations.{IsInSolution}
use Rattle.gk_solve.specs.Solved.{SliceTable, AreSolved, AreMeetWords, HasPathFlags, direction_of, word_at}
use Rattle.gk_solve.specs.Tables.Flags.{ArePathFlags}
use Rattle.gk_solve.specs.Tables.Groups.{IsGroupFrame, group_of, generated_word}
use Rattle.gk_solve.specs.Tables.Solutions.{AreSliceSolutions}
use Rattle.gk_solve.specs.Tables.Words.{HasBit, place_boundary, place_gens, place_kills, place_transfer, step_statement}
use Rattle.gk_solve.specs.declared.group_frame.GroupFrame.{GroupFrame}
use Rattle.gk_solve.specs.declared.summary.Summary.{Summary}
use Rattle.summary_equations.proofs.solutions.Least.{bits_are_apart}
use Rattle.summary_equations.proofs.paths.Meet.{solution_is_meet}

agrees : (form : Selection) (bit : ℕ) → bit < column_count form
    → AgreesOnSteps (may_shape form.program form.analysis) (place_transfer (is_backward form.analysis) form bit)
    (column_transfer form bit)
unfolding place_gens place_kills place_boundary
agrees form bit below = record {
  same_gen = λ x y edge. ap (λ b. b && column_gens form (step_statement (is_backward form.analysis) x y) bit)
      (lt-ltb bit (column_count form) below) ∙ sym ((steps_have_statements (may_form form) x y (bit_of form bit)).0);
  same_kill = λ x y edge. ap (λ b. b && column_kills form (step_statement (is_backward form.analysis) x y) bit)
      (lt-ltb bit (column_count form) below) ∙ sym ((steps_have_statements (may_form form) x y (bit_of form bit)).1);
  same_boundary =
      ap (λ b. b && column_boundary form bit) (lt-ltb bit (column_count form) below) ∙ sym ((steps_have_statements (may_form form) 0 0 (bit_of form bit)).2);
}

pub place_is_bit : (form : Selection) (linked : LinkedProgram) → linked ≡ direction_of form → (bit : ℕ) → bit < column_count form
    → (x : ℕ)
    → IsInSolution (directed_shape linked) (place_transfer linked.backward form bit) x
    ↔ IsInSolution (may_shape form.program form.analysis) (column_transfer form bit) x
place_is_bit form linked same bit below x =
    subst (λ (l : LinkedProgram). IsInSolution (directed_shape l) (place_transfer l.backward form bit) x
    ↔ IsInSolution (may_shape form.program form.analysis) (column_transfer form bit) x) (sym same)
    (bits_are_apart (may_shape form.program form.analysis) (place_transfer (is_backward form.analysis) form bit)
    (column_transfer form bit) x (agrees form bit below))

-- a slice whose tables have the solution has solved words
pub solved_words : (form : Selection) (linked : LinkedProgram) → linked ≡ direction_of form
    → {W : ℕ} (width : ℕ) (table : List (Summary W)) (slice : SliceTable) → slice.hi ≤ column_count form
    → slice.words ≡ map (λ (s : Summary W). s.generated) table → slice.until ≤ slice.from + width
    → ((w x k : ℕ) → w < width → x < slice.points → k < 64 → HasBit (generated_word table w) x k
    ↔ ((slice.lo ≤ 64 * (slice.from + w) + k) × (64 * (slice.from + w) + k < slice.hi)
    × IsInSolution (directed_shape linked) (place_transfer linked.backward form (64 * (slice.from + w) + k)) x))
    → AreSolved form slice
solved_words form linked same {W = W} width table slice inside words few solutions point word k point_low from until low =
    let w = word - slice.from in
    let place : 64 * (slice.from + w) + k ≡ 64 * word + k = omega (arith, from) in
    let read : word_at slice point word ≡ generated_word table w point =
    ap (λ (rows : List (List ℕ)). get_or (get_or rows point []) w 0) words
    ∙ ap (λ (row : List ℕ). get_or row w 0) (get_or-map (λ (s : Summary W). s.generated) table point (record { preserved = []; generated = [] })) in
    let is = solutions w point k (omega (arith, from, until, few)) point_low low in (
      λ has.
          let there = is.0 (ap (λ n. has_bit n k) (sym read) ∙ has) in
          let high : 64 * word + k < slice.hi = omega (arith, there.1, place) in (
            omega (arith, there.0, place),
            high,
            (place_is_bit form linked same (64 * word + k) (omega (arith, high, inside)) point).0
                (subst (λ n. IsInSolution (directed_shape linked) (place_transfer linked.backward form n) point) place there.2),
          ),
      λ there.
          ap (λ n. has_bit n k) read ∙ is.1 (
            omega (arith, there.0, place),
            omega (arith, there.1, place),
            subst (λ n. IsInSolution (directed_shape linked) (place_transfer linked.backward form n) point) (sym place)
                ((place_is_bit form linked same (64 * word + k) (omega (arith, there.1, inside)) point).1 there.2),
          ),
    )

-- the same of the table that a group's frame was solved with
pub solved_by_frame : (form : Selection) (frame : GroupFrame) {W : ℕ} (width points : ℕ) (table : List (Summary W)) (slice : SliceTable)
    → IsGroupFrame width frame → frame.problem.now ≡ form → frame.first ≡ slice.from
    → slice.hi ≤ column_count form → slice.words ≡ map (λ (s : Summary W). s.generated) table → slice.until ≤ slice.from + width
    → slice.points ≡ points
    → AreSliceSolutions (group_of frame width) frame.first points slice.lo slice.hi table → AreSolved form slice
solved_by_frame form frame {W = W} width points table slice is problem first inside words few count solutions =
    solved_words form frame.links.now (is.direction ∙ ap direction_of problem) width table slice inside words few
    (λ w x k low within place.
    subst (λ n. HasBit (generated_word table w) x k ↔ ((slice.lo ≤ 64 * (n + w) + k) × (64 * (n + w) + k < slice.hi)
    × IsInSolution (directed_shape frame.links.now) (place_transfer frame.links.now.backward form (64 * (n + w) + k)) x)) first
    (subst (λ (f : Selection). HasBit (generated_word table w) x k ↔ ((slice.lo ≤ 64 * (frame.first + w) + k) × (64 * (frame.first + w) + k < slice.hi)
    × IsInSolution (directed_shape frame.links.now) (place_transfer frame.links.now.backward f (64 * (frame.first + w) + k)) x)) problem
    (solutions w x k low (omega (arith, within, count)) place)))

-- so they are of the meet over valid paths
pub meet_words : (form : Selection) (slice : SliceTable) → IsWellFormed (may_shape form.program form.analysis) → AreSolved form slice
    → AreMeetWords form slice
meet_words form slice formed solved point word k point_low from until low =
    let is = solved point word k point_low from until low in
    let meet = (solution_is_meet (may_shape form.program form.analysis) (column_transfer form (64 * word + k)) point formed).1 in
    (λ has. let there = is.0 has in (there.0, there.1, meet.0 there.2), λ there. is.1 (there.0, there.1, meet.1 there.2))

-- path flags tell where valid paths lead
pub flags_tell : (form : Selection) (linked : LinkedProgram) → linked ≡ direction_of form → IsWellFormed (may_shape form.program form.analysis)
    → (flags : List Bool)
    → ArePathFlags (directed_shape linked) (point_count linked.program) flags → HasPathFlags (may_form form) flags
flags_tell form linked same formed flags are =
    let here = subst (λ (l : LinkedProgram). ArePathFlags (directed_shape l) (point_count l.program) flags) same are in
    record {
      count = here.count;
      flag = λ point within.
          let meet = (solution_is_meet (may_shape form.program form.analysis) (column_transfer form 0) point formed).0 in
          (λ has. meet.0 ((here.exact point).0 has), λ path. (here.exact point).1 (meet.1 path));
    }
