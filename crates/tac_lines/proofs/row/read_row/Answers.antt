use Rattle.std.proofs.Common.{ap, ◌∙◌, arith, length, ◌<◌}
use Rattle.tac_lines.specs.code.Views.{tokens_view}
use Rattle.tac_lines.proofs.tokens.RowSteps.{row_step, step_some, step_gap, row_stops, length-push}
use Rattle.tac_lines.proofs.row.read_row.Goals as goal
use Rattle.tac_lines.proofs.row.read_row.Goals.{in-Some-kind+in_ok-push_token-in-Some-front, in_default-kind}

pub returns-in-None-clause-row : goal.returns-in-None-clause-row
returns-in-None-clause-row c =
    row_stops c.args.text.now c.loop-at.at c.args.stop _ (tokens_view c.args.text.now c.loop-at.row.items)
    c.loop-at-test.true c.requires.within c.in-None.ensures.piece c.loop-at.invariant.rest

pub loop-at-preserved : goal.loop-at-preserved
loop-at-preserved c =
    let text = c.args.text.now in
    let at = c.loop-at.at in
    let len = c.in-Some-front.len in
    let before = c.loop-at.invariant in
    let s = row_step text at c.args.stop len c.in-Some-front.kind c.loop-at-test.true c.requires.within c.in-Some-front.ensures.piece
    c.in-Some-front.ensures.some c.in-Some-front.ensures.within in
    let some : 0 < len = c.in-Some-front.ensures.some in
    elim c.match-kind.branch [
      | in-Some-kind+in_ok-push_token-in-Some-front w ↦
          let pushed = ap (λ v. v.items) w.row-is ∙ w.in_ok-push_token-in-Some-front.ensures in
          let longer = length-push c.loop-at.row.items c.match-kind.row.items _ pushed in
          record {
            begun = omega (arith, before.begun);
            within = s.1;
            count = omega (arith, before.count, longer, some);
            rest = step_some text at len c.args.stop _ c.in-Some-front.kind w.in-Some-kind.kind c.loop-at.row.items c.match-kind.row.items pushed
                w.in-Some-kind.is s.0 before.rest;
          }
      | in_default-kind w ↦
          let same = ap (λ v. v.items) w.row-is in
          record {
            begun = omega (arith, before.begun);
            within = s.1;
            count = omega (arith, before.count, ap length same, some);
            rest = step_gap text at len c.args.stop _ c.in-Some-front.kind c.loop-at.row.items c.match-kind.row.items same w.in_default-kind.not-Some
                s.0 before.rest;
          }
    ]
