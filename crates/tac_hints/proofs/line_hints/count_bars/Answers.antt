use Rattle.std.proofs.Common.{◌+◌, ap, arith, codes, if◌then◌else◌, sym, ◌∙◌}
use Rattle.tac_lines.specs.Forms.{key}
use Rattle.tac_hints.proofs.HintLists.{counted_more}
use Rattle.tac_hints.proofs.line_hints.count_bars.Goals as goal
use Rattle.tac_hints.proofs.line_hints.count_bars.Goals.{then-stands, else-stands}

pub loop-at-preserved : goal.loop-at-preserved
loop-at-preserved c =
    let old = c.loop-at.count in
    let before = c.loop-at.invariant in
    elim c.if-stands.branch [
      | then-stands w ↦ record {
        few = omega (arith, before.few, w.count-is);
        rest = λ text. counted_more (key (codes "|")) text c.args.tokens.now c.loop-at.at old c.if-stands.count _ c.stands.result c.loop-at-test.true
            (c.stands.ensures text) (w.count-is ∙ sym (ap (λ b. if b then old + 1 else old) w.if-stands.true)) (before.rest text);
      }
      | else-stands w ↦ record {
        few = omega (arith, before.few, w.count-is);
        rest = λ text. counted_more (key (codes "|")) text c.args.tokens.now c.loop-at.at old c.if-stands.count _ c.stands.result c.loop-at-test.true
            (c.stands.ensures text) (w.count-is ∙ sym (ap (λ b. if b then old + 1 else old) w.if-stands.false)) (before.rest text);
      }
    ]
