use Rattle.std.proofs.Common.{◌≡◌, ◌∙◌, ◌-◌, ◌*◌, ap, sym, length, rules, List}
use Rattle.tac_lines.specs.Forms.{behind_labels}
use Rattle.tac_lines.specs.code.Formed.{is_formed}
use Rattle.tac_lines.specs.code.Views.{tokens_view}
use Rattle.tac_lines.specs.declared.lexed.LineRange.{LineRange}
use Rattle.tac_lines.specs.declared.token.Token.{Token}
use Rattle.tac_lines.proofs.lines.RangeLemmas.{lines_push, views_push, not_empty}
use Rattle.tac_lines.proofs.lex.push_line.Goals as goal

pub returns-clause-lines : goal.returns-clause-lines
returns-clause-lines c =
    let tokens = c.args.tokens.now.items in
    let row : List Token = c.args.line.tokens.now in
    let line = c.args.line in
    let first : c.range.result.first ≡ length tokens = search rules in
    let end : c.range.result.end ≡ length c.extend_from_slice.new.self.items = search rules in
    lines_push tokens row _ c.args.lines.now.items _ c.range.result c.requires c.in_ok-extend_from_slice.ensures.items c.in_ok-push.ensures.items
    first end
    (λ text. ap (λ (r : LineRange). r.labels) c.range.ensures ∙ line.counted text)
    (λ text. (λ i. let r : LineRange = c.range.ensures i in is_formed r.form (length row - 2 * r.labels) (behind_labels (tokens_view text row)))
    ∙ line.formed text)

pub returns-clause-pushed : goal.returns-clause-pushed
returns-clause-pushed c =
    let first : c.range.result.first ≡ length c.args.tokens.now.items = search rules in
    let end : c.range.result.end ≡ length c.extend_from_slice.new.self.items = search rules in
    views_push c.args.tokens.now.items c.args.line.tokens.now _ c.args.lines.now.items _ c.range.result c.requires.within
    c.in_ok-extend_from_slice.ensures.items c.in_ok-push.ensures.items first end
    (not_empty c.args.line.tokens.now (sym c.is_empty.ensures ∙ c.if-is_empty.false))
