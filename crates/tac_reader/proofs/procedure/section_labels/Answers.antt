use Rattle.tac_lines.specs.Forms.{behind_labels, labels_of}
use Rattle.std.proofs.Common.{◌≡◌, ◌<◌, ◌+◌, ◌∙◌, ℕ, List, length, ap, sym, arith}
use Rattle.tac_lines.specs.Tokens.{unless_empty}
use Rattle.tac_lines.specs.code.Views.{tokens_view}
use Rattle.tac_lines.proofs.lines.RangeLemmas.{no_line}
use Rattle.tac_reader.proofs.programs.LabelRuns.{lines_on}
use Rattle.tac_reader.proofs.programs.StatementRuns.{unless_some, unless_none}
use Rattle.tac_reader.proofs.procedure.section_labels.Goals as goal
use Rattle.tac_reader.proofs.procedure.section_labels.Goals.{then-not-is_empty, else-not-is_empty}

pub loop-at-preserved : goal.loop-at-preserved
loop-at-preserved c =
    let tokens = c.statement.result.tokens.now in
    let below : c.loop-at.at < length c.args.lines.ranges.now = omega (arith, c.loop-at-test.true, c.len-at-end.ensures) in
    let on = λ (text : List ℕ) (moved : c.if-not-is_empty.place ≡ c.loop-at.place + length (unless_empty (tokens_view text tokens))).
    lines_on text c.args.lines.tokens.now c.args.lines.ranges.now c.loop-at.at no_line tokens c.loop-at.labels.items c.push_labels.new.labels.items
    c.loop-at.place _ c.if-not-is_empty.place _ _ below
    (c.statement.ensures text ∙ ap (λ ts. behind_labels (tokens_view text ts)) (c.line-line.ensures no_line))
    (c.labels.ensures text ∙ ap (λ ts. length (labels_of (tokens_view text ts))) (c.line-line.ensures no_line))
    c.in_ok-push_labels.ensures c.in_ok-counted.ensures moved (c.loop-at.invariant.rest text) in
    elim c.if-not-is_empty.branch [
      | then-not-is_empty w ↦ record {
        within = omega (arith, w.place-is, c.loop-at.invariant.within);
        rest = λ text. on text (let one : length (unless_empty (tokens_view text tokens)) ≡ 1 =
            ap length (unless_some text tokens (sym c.is_empty.ensures ∙ w.if-not-is_empty.true)) in omega (arith, one, w.place-is));
      }
      | else-not-is_empty w ↦ record {
        within = omega (arith, w.place-is, c.loop-at.invariant.within);
        rest = λ text. on text (let none : length (unless_empty (tokens_view text tokens)) ≡ 0 =
            ap length (unless_none text tokens (sym c.is_empty.ensures ∙ w.if-not-is_empty.false)) in omega (arith, none, w.place-is));
      }
    ]
