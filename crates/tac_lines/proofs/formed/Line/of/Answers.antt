use Rattle.std.proofs.Common.{◌≡◌, ◌-◌, ◌*◌, ◌∙◌, sym, arith, length, []}
use Rattle.tac_lines.specs.code.Formed.{is_formed}
use Rattle.tac_lines.specs.code.Views.{tokens_view}
use Rattle.tac_lines.proofs.forms.FormedLines.{form_of_row}
use Rattle.tac_lines.proofs.formed.Line.of.Goals as goal

pub overflow_sub-tokens : goal.overflow_sub-tokens
overflow_sub-tokens c = omega (arith, c.behind_labels-behind.ensures.count [])

pub invariant_of-result : goal.invariant_of-result
invariant_of-result c =
    let behind = c.behind_labels-behind.result.now in
    let form = c.statement_form-form.result in
    let size : length behind ≡ length c.args.tokens.now - 2 * c.in_ok-labels.labels =
    omega (arith, c.in_ok-labels.ensures, c.behind_labels-behind.ensures.count []) in
    record {
      counted = λ text. omega (arith, c.in_ok-labels.ensures, c.behind_labels-behind.ensures.count text);
      formed = λ text. sym (λ i. is_formed form (size i) (c.behind_labels-behind.ensures.behind text i))
          ∙ form_of_row form (length behind) (tokens_view text behind) (c.statement_form-form.ensures text);
    }
