use Rattle.std.proofs.lemmas.List.{get_or_default}
use Rattle.lint_json.specs.RefusalJson.{error_line}
use Rattle.lint_json.proofs.Elements.{put_more}
use Rattle.lint_json.proofs.errors.push_errors.Goals as goal

pub loop-one-preserved : goal.loop-one-preserved
loop-one-preserved c =
    put_more c.args.told.now c.loop-one.one-index (error_line c.args.name.now c.args.text.now) _ c.args.out.now.items c.loop-one.out.items _
    c.loop-one-test.true (get_or_default c.args.told.now c.loop-one.one-index _ _ c.loop-one-test.true) c.loop-one.invariant
    c.in_ok-push_error.ensures
