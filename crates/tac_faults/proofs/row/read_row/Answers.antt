use Rattle.std.proofs.Common.{ap, ◌∙◌, arith, ◌<◌}
use Rattle.tac_lines.specs.code.Views.{tokens_view}
use Rattle.tac_lines.proofs.tokens.RowSteps.{row_step, step_some, step_gap, row_stops}
use Rattle.tac_faults.proofs.row.read_row.Goals as goal
use Rattle.tac_faults.proofs.row.read_row.Goals.{in-Some-kind+in_ok-push_token-in-Some, in_default}

pub returns-in-None-clause-row : goal.returns-in-None-clause-row
returns-in-None-clause-row c =
    row_stops c.args.text.now c.loop-at.at c.args.stop _ (tokens_view c.args.text.now c.loop-at.row.items)
    c.loop-at-test.true c.requires.within c.in-None.ensures.piece c.loop-at.invariant.rest

pub loop-at-preserved : goal.loop-at-preserved
loop-at-preserved c =
    let text = c.args.text.now in
    let at = c.loop-at.at in
    let len = c.in-Some.len in
    let before = c.loop-at.invariant in
    let s = row_step text at c.args.stop len c.in-Some.kind c.loop-at-test.true c.requires.within c.in-Some.ensures.piece
    c.in-Some.ensures.some c.in-Some.ensures.within in
    let some : 0 < len = c.in-Some.ensures.some in
    elim c.match-kind.branch [
      | in-Some-kind+in_ok-push_token-in-Some w ↦
          let pushed = ap (λ v. v.items) w.row-is ∙ w.in_ok-push_token-in-Some.ensures in
          record {
            begun = omega (arith, before.begun);
            within = s.1;
            rest = step_some text at len c.args.stop _ c.in-Some.kind w.in-Some-kind.kind c.loop-at.row.items c.match-kind.row.items pushed
                w.in-Some-kind.is s.0 before.rest;
          }
      | in_default w ↦
          let same = ap (λ v. v.items) w.row-is in
          record {
            begun = omega (arith, before.begun);
            within = s.1;
            rest = step_gap text at len c.args.stop _ c.in-Some.kind c.loop-at.row.items c.match-kind.row.items same w.in_default.not-Some
                s.0 before.rest;
          }
    ]
