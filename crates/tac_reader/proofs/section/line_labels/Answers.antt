use Rattle.std.proofs.Common.{◌≡◌, ◌∙◌, ◌-◌, ap, sym, arith, [], ◌++◌, drop, length, length-drop, append-nil}
use Rattle.std.proofs.lemmas.Grind.{common_steps}
use Rattle.tac_lines.specs.code.Views.{tokens_view}
use Rattle.tac_lines.proofs.forms.LineForms.{label_step, label_stop}
use Rattle.tac_reader.proofs.sections.SectionSteps.{labels_on}
use Rattle.tac_reader.proofs.section.line_labels.Goals as goal

pub bounds-line-at : goal.bounds-line-at
bounds-line-at c =
    let s = label_step [] (drop c.loop-found.at c.args.line.now) (c.label_at.ensures [] ∙ c.loop-found-test.true) in
    let size : length (drop c.loop-found.at c.args.line.now) ≡ length c.args.line.now - c.loop-found.at =
    length-drop c.loop-found.at c.args.line.now in
    omega (arith, s.2, size)

pub loop-found-smaller : goal.loop-found-smaller
loop-found-smaller c =
    let s = label_step [] (drop c.loop-found.at c.args.line.now) (c.label_at.ensures [] ∙ c.loop-found-test.true) in
    let size : length (drop c.loop-found.at c.args.line.now) ≡ length c.args.line.now - c.loop-found.at =
    length-drop c.loop-found.at c.args.line.now in
    omega (arith, s.2, size)

pub loop-found-preserved : goal.loop-found-preserved
loop-found-preserved c =
    let s = label_step [] (drop c.loop-found.at c.args.line.now) (c.label_at.ensures [] ∙ c.loop-found-test.true) in
    let size : length (drop c.loop-found.at c.args.line.now) ≡ length c.args.line.now - c.loop-found.at =
    length-drop c.loop-found.at c.args.line.now in
    record {
      within = omega (arith, s.2, size);
      kept = grind (arith, common_steps);
      rest = λ text. labels_on text c.args.line.now c.loop-found.found.items c.push.new.self.items c.loop-found.at _ _ c.in_ok-push.ensures.items
          (c.label_at.ensures text ∙ c.loop-found-test.true) (c.loop-found.invariant.rest text);
    }

pub returns-clause-appended : goal.returns-clause-appended
returns-clause-appended c text =
    let s = label_stop text (drop c.loop-found.at c.args.line.now) (c.label_at.ensures text ∙ c.loop-found-test.false) in
    sym (append-nil (tokens_view text c.loop-found.found.items)) ∙ ap (λ r. tokens_view text c.loop-found.found.items ++ r) (sym s.1)
    ∙ c.loop-found.invariant.rest text
