use Rattle.std.proofs.Common.{rules, sym, subst}
use Rattle.slice_board.specs.Passes.{PassState}
use Rattle.slice_board.specs.Teams.{HaveSameShare}
use Rattle.slice_board.proofs.passes.Shares.{same_joined}
use Rattle.slice_board.proofs.workers.+fn-run_threads-join+arg3+run_threads.Goals as goal

pub returns-clause-share : goal.returns-clause-share
returns-clause-share g t c =
    let first : HaveSameShare c.split-theirs.new.pass c.in_ok-mine.field-0 = search rules in
    let second : HaveSameShare c.split-theirs.result c.in_ok-theirs.field-0 = search rules in
    subst (λ (p : PassState _). HaveSameShare c.args.pass p) (sym c.united_pass.ensures.joined)
    (same_joined c.args.pass c.in_ok-mine.field-0 c.in_ok-theirs.field-0
    (subst (λ (p : PassState _). HaveSameShare p c.in_ok-mine.field-0) c.split-theirs.ensures.old first)
    (subst (λ (p : PassState _). HaveSameShare p c.in_ok-theirs.field-0) c.split-theirs.ensures.new second))
