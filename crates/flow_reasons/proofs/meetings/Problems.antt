-- What the marks of a problem's columns say of the statements
use Rattle.std.proofs.Common.{◌≡◌, ◌<◌, ◌↔◌, suc, ◌||◌, ◌&&◌, not, ℕ, Bool, true, false, List, refl, sym, ◌∙◌, subst}
use Rattle.tac_program.specs.Programs.{Program}
use Rattle.tac_program.specs.Sound.{IsSound}
use Rattle.flow_graph.specs.Analyses.{shape_of}
use Rattle.flow_graph.specs.Paths.{SomeBackwardPathHas}
use Rattle.flow_graph.specs.Points.{point_count}
use Rattle.flow_graph.specs.Transfers.{gens, kills, writes}
use Rattle.flow_graph.specs.declared.analysis.Analysis.TheVariants.{Live, Avail, Busy}
use Rattle.flow_links.specs.Shapes.{LinkedProgram}
use Rattle.gen_kill.specs.Selections.{Selection, all_bits, column_kills}
use Rattle.flow_reasons.specs.Meetings.{IsLastEvaluation, IsNextEvaluation, IsNextWrite, decides, meeting, renews}
use Rattle.flow_reasons.specs.code.Marks.{AreMarks, IsMet, touches}
use Rattle.flow_reasons.proofs.meetings.Meetings.{met_backward, met_forward}

-- marks of what is the same
marks_as : (many : ℕ) (first second : ℕ → Bool) (marks : List Bool) → ((x : ℕ) → first x ≡ second x) → AreMarks many first marks
    → AreMarks many second marks
marks_as many first second marks same are = record { count = are.count; each = λ x low. are.each x low ∙ same x }

-- what is touched is generated or killed in the analysis itself
touched : (gen_ kill : Bool) → ((kill && not gen_) || gen_) ≡ (gen_ || kill)
touched true true = refl
touched true false = refl
touched false true = refl
touched false false = refl

pub write_marks : (program : Program) (form : Selection) (variable : ℕ) (marks : List Bool) → form ≡ all_bits program Live
    → AreMarks (point_count form.program) (λ x. column_kills form x variable) marks
    → AreMarks (point_count program) (λ x. writes program x variable) marks
write_marks program form variable marks is are =
    subst (λ (f : Selection). AreMarks (point_count f.program) (λ x. column_kills f x variable) marks) is are

pub evaluation_marks : (program : Program) (form : Selection) (e : ℕ) (marks : List Bool) → form ≡ all_bits program Avail
    → AreMarks (point_count form.program) (λ x. column_kills form x e) marks → AreMarks (point_count program) (λ x. gens program Avail x e) marks
evaluation_marks program form e marks is are =
    subst (λ (f : Selection). AreMarks (point_count f.program) (λ x. column_kills f x e) marks) is are

pub busy_marks : (program : Program) (form : Selection) (e : ℕ) (marks : List Bool) → form ≡ all_bits program Busy
    → AreMarks (point_count form.program) (λ x. column_kills form x e) marks → AreMarks (point_count program) (λ x. gens program Busy x e) marks
busy_marks program form e marks is are =
    subst (λ (f : Selection). AreMarks (point_count f.program) (λ x. column_kills f x e) marks) is are

pub renewal_marks : (program : Program) (form : Selection) (e : ℕ) (marks : List Bool) → form ≡ all_bits program Avail
    → AreMarks (point_count form.program) (touches form e) marks → AreMarks (point_count program) (renews program e) marks
renewal_marks program form e marks is are =
    marks_as (point_count program) (touches (all_bits program Avail) e) (renews program e) marks
    (λ x. touched (gens program Avail x e) (kills program Avail x e))
    (subst (λ (f : Selection). AreMarks (point_count f.program) (touches f e) marks) is are)

pub decision_marks : (program : Program) (form : Selection) (e : ℕ) (marks : List Bool) → form ≡ all_bits program Busy
    → AreMarks (point_count form.program) (touches form e) marks → AreMarks (point_count program) (decides program e) marks
decision_marks program form e marks is are =
    marks_as (point_count program) (touches (all_bits program Busy) e) (decides program e) marks
    (λ x. touched (gens program Busy x e) (kills program Busy x e))
    (subst (λ (f : Selection). AreMarks (point_count f.program) (touches f e) marks) is are)

module _ (program : Program) (sound : IsSound program) (linked : LinkedProgram) (at q : ℕ) where
  pub next_write : (variable p : ℕ) (marks : List Bool) → linked ≡ record { program = program; backward = true }
      → AreMarks (point_count program) (λ x. writes program x variable) marks → at ≡ suc p
      → IsMet linked marks marks at q ↔ IsNextWrite program variable p q
  next_write variable p marks is are here =
      let (forth, back) = met_backward program sound (λ x. writes program x variable) marks are linked at q is in (
        λ met.
            let low : q < point_count program = subst (λ n. q < n) are.count met.below in record {
              below = low;
              write = sym (are.each q low) ∙ met.marked;
              next = subst (SomeBackwardPathHas (shape_of program) (meeting (λ x. writes program x variable) q)) here (forth met.meets);
            },
        λ next. record {
          below = subst (λ n. q < n) (sym are.count) next.below;
          marked = are.each q next.below ∙ next.write;
          meets = back (subst (SomeBackwardPathHas (shape_of program) (meeting (λ x. writes program x variable) q)) (sym here) next.next);
        },
      )

  pub last_evaluation : (e : ℕ) (wanted stops : List Bool) → linked ≡ record { program = program; backward = false }
      → AreMarks (point_count program) (λ x. gens program Avail x e) wanted → AreMarks (point_count program) (renews program e) stops
      → IsMet linked wanted stops at q ↔ IsLastEvaluation program e at q
  last_evaluation e wanted stops is are stop =
      let (forth, back) = met_forward program sound (renews program e) stops stop linked at q is in (
        λ met.
            let low : q < point_count program = subst (λ n. q < n) are.count met.below in
            record { below = low; evaluates = sym (are.each q low) ∙ met.marked; last = forth met.meets },
        λ last. record {
          below = subst (λ n. q < n) (sym are.count) last.below;
          marked = are.each q last.below ∙ last.evaluates;
          meets = back last.last;
        },
      )

  pub next_evaluation : (e : ℕ) (wanted stops : List Bool) → linked ≡ record { program = program; backward = true }
      → AreMarks (point_count program) (λ x. gens program Busy x e) wanted → AreMarks (point_count program) (decides program e) stops
      → IsMet linked wanted stops at q ↔ IsNextEvaluation program e at q
  next_evaluation e wanted stops is are stop =
      let (forth, back) = met_backward program sound (decides program e) stops stop linked at q is in (
        λ met.
            let low : q < point_count program = subst (λ n. q < n) are.count met.below in
            record { below = low; evaluates = sym (are.each q low) ∙ met.marked; next = forth met.meets },
        λ next. record {
          below = subst (λ n. q < n) (sym are.count) next.below;
          marked = are.each q next.below ∙ next.evaluates;
          meets = back next.next;
        },
      )
