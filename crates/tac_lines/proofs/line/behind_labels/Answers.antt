use Rattle.std.proofs.Common.{◌≡◌, ◌∙◌, ap, sym, ℕ, ◌-◌, [], arith, length, take, drop, drop-drop, length-drop, List, nat_lt, true}
use Rattle.std.proofs.lemmas.List.{take_rest}
use Rattle.tac_lines.specs.Forms.{behind_labels, labels_of}
use Rattle.tac_lines.specs.code.Views.{tokens_view, line_forms}
use Rattle.tac_lines.proofs.forms.LineForms.{label_step, label_stop, label_end, labelled_on}
use Rattle.tac_lines.proofs.forms.LabelCounts.{count_on}
use Rattle.tac_lines.proofs.line.behind_labels.Goals as goal

pub loop-at-smaller : goal.loop-at-smaller
loop-at-smaller c =
    let s = label_step [] (drop c.loop-at.at c.args.tokens.now) (c.label_at.ensures [] ∙ c.loop-at-test.true) in
    let size : length (drop c.loop-at.at c.args.tokens.now) ≡ length c.args.tokens.now - c.loop-at.at = length-drop c.loop-at.at c.args.tokens.now in
    omega (arith, s.2, size)

pub loop-at-preserved : goal.loop-at-preserved
loop-at-preserved c =
    let ts = c.args.tokens.now in
    let at = c.loop-at.at in
    let s = λ (text : List ℕ). label_step text (drop at ts) (c.label_at.ensures text ∙ c.loop-at-test.true) in
    let size : length (drop at ts) ≡ length ts - at = length-drop at ts in
    record {
      within = omega (arith, (s []).2, size);
      behind = λ text. ap (λ r. behind_labels (tokens_view text r)) (sym (drop-drop 2 at ts)) ∙ sym (s text).0 ∙ c.loop-at.invariant.behind text;
      forms = λ text h. labelled_on text at ts (c.loop-at.invariant.forms text) (s text).1;
      count = λ text. count_on text ts at _ (c.label_at.ensures text ∙ c.loop-at-test.true) (c.loop-at.invariant.count text);
    }

pub returns-clause-behind : goal.returns-clause-behind
returns-clause-behind c text =
    let ts = c.args.tokens.now in
    let at = c.loop-at.at in
    let s = label_stop text (drop at ts) (c.label_at.ensures text ∙ c.loop-at-test.false) in
    ap (tokens_view text) (take_rest ts at) ∙ sym s.0 ∙ c.loop-at.invariant.behind text

pub returns-clause-forms : goal.returns-clause-forms
returns-clause-forms c text =
    let ts = c.args.tokens.now in
    let at = c.loop-at.at in
    let s = label_stop text (drop at ts) (c.label_at.ensures text ∙ c.loop-at-test.false) in
    label_end text at ts c.loop-at.invariant.within (c.loop-at.invariant.forms text) s.1
    ∙ ap (λ r. line_forms true (nat_lt (length r) (length ts))) (sym (take_rest ts at))

pub returns-clause-count : goal.returns-clause-count
returns-clause-count c text =
    let ts = c.args.tokens.now in
    let at = c.loop-at.at in
    let s = label_stop text (drop at ts) (c.label_at.ensures text ∙ c.loop-at-test.false) in
    let none : length (labels_of (tokens_view text (drop at ts))) ≡ 0 = ap length s.1 in
    let left : length (drop at ts) ≡ length ts - at = length-drop at ts in
    let rest : length (take (length ts - at) (drop at ts)) ≡ length (drop at ts) = ap length (take_rest ts at) in
    omega (arith, none, left, rest, c.loop-at.invariant.count text, c.loop-at.invariant.within)
