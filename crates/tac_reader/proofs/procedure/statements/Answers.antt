use Rattle.tac_lines.specs.Forms.{behind_labels}
use Rattle.std.proofs.Common.{◌<◌, ◌∙◌, ap, arith, length, sym}
use Rattle.tac_reader.specs.code.Built.{names_view}
use Rattle.tac_reader.specs.Parses.{statement_of}
use Rattle.tac_lines.specs.code.Views.{tokens_view}
use Rattle.tac_lines.proofs.lines.RangeLemmas.{no_line}
use Rattle.tac_reader.proofs.programs.StatementRuns.{made_one, made_none}
use Rattle.tac_reader.proofs.procedure.statements.Goals as goal
use Rattle.tac_reader.proofs.procedure.statements.Goals.{then-not-is_empty+in_ok-statement+in_ok-push, else-not-is_empty}

pub loop-at-preserved : goal.loop-at-preserved
loop-at-preserved c =
    let text = c.args.cursor.now in
    let names = names_view c.args.names in
    let tokens = c.statement-formed.result.tokens.now in
    let below : c.loop-at.at < length c.args.lines.ranges.now = omega (arith, c.loop-at-test.true, c.len-at-end.ensures) in
    let behind = c.statement-formed.ensures text ∙ ap (λ ts. behind_labels (tokens_view text ts)) (c.line.ensures no_line) in
    elim c.if-not-is_empty.branch [
      | then-not-is_empty+in_ok-statement+in_ok-push w ↦ record {
        text = w.cursor-is ∙ w.in_ok-statement.ensures.text ∙ c.loop-at.invariant.text;
        rest = made_one text c.args.lines.tokens.now c.args.lines.ranges.now c.loop-at.at no_line tokens below behind (statement_of text names)
            c.loop-at.stmts.items _ _ _ (sym c.is_empty.ensures ∙ w.if-not-is_empty.true) (ap (λ v. v.items) w.stmts-is ∙ w.in_ok-push.ensures.items)
            (w.in_ok-statement.ensures.statement ∙ ap (λ t. statement_of t names (tokens_view t tokens)) c.loop-at.invariant.text)
            c.loop-at.invariant.rest;
      }
      | else-not-is_empty w ↦ record {
        text = w.cursor-is ∙ c.loop-at.invariant.text;
        rest = made_none text c.args.lines.tokens.now c.args.lines.ranges.now c.loop-at.at no_line tokens below behind (statement_of text names)
            c.loop-at.stmts.items _ _ (sym c.is_empty.ensures ∙ w.if-not-is_empty.false) (ap (λ v. v.items) w.stmts-is) c.loop-at.invariant.rest;
      }
    ]
