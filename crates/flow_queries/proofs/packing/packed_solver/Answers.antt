use Rattle.std.proofs.Common.{◌≡◌, ◌∙◌, ◌+◌, ◌/◌, ℕ, Bool, List, length, refl, sym, ap, subst}
use Rattle.flow_queries.specs.code.Packing.{AreMarksOf, HasAsked}
use Rattle.gen_kill.specs.Selections.{AreMarked, Selection, some_bits}
use Rattle.flow_queries.proofs.queries.Packed.{asked_have_columns}
use Rattle.flow_queries.proofs.packing.packed_solver.Goals as goal

pub returns : goal.returns
returns c = λ selection is.
    let program = c.args.graph.now in
    let queries = c.args.queries.now in
    let words = c.in_ok-words.words.items in
    let marks = c.in_ok-marks.marks.items in
    let chosen = c.in_ok-chosen.chosen.items in
    let same : c.in_ok-of.field-0 ≡ selection = cc is in
    let whole : selection ≡ some_bits program c.args.analysis chosen = sym same ∙ c.in_ok-of.ensures ∙ c.in_ok-problem.ensures in
    subst (λ (s : Selection). (s.program ≡ program) × HasAsked queries c.args.analysis s) (sym whole) (
      refl,
      asked_have_columns program queries c.args.analysis words marks chosen
          (c.in_ok-words.ensures.count ∙ c.words_for.ensures ∙ ap (λ (n : ℕ). (n + 63) / 64) c.bits-bits.ensures.count)
          (c.in_ok-marks.ensures.count ∙ c.bits-bits.ensures.count)
          c.in_ok-words.ensures.asked
          (subst (λ (list : List ℕ). AreMarksOf list marks) c.as_slice.ensures.value c.in_ok-marks.ensures.each)
          (subst (λ (list : List Bool). AreMarked list (length list) chosen) c.as_slice-2.ensures.value c.in_ok-chosen.ensures),
    )
