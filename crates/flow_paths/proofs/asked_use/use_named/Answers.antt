use Rattle.std.proofs.Common.{◌∙◌, ap, sym}
use Rattle.flow_paths.specs.Pictures.{first_use, is_named}
use Rattle.flow_paths.proofs.lists.Pictured.{is_first, passed_over}
use Rattle.flow_paths.proofs.asked_use.use_named.Goals as goal

pub loop-one-preserved : goal.loop-one-preserved
loop-one-preserved c =
    let named = is_named c.args.graph.now c.args.text.now in
    c.loop-one.invariant ∙ passed_over named c.args.uses.now c.loop-one.one-index _ c.loop-one-test.true (sym c.in_ok-names_use.ensures ∙ c.if-branch.false)

pub returns-then-branch : goal.returns-then-branch
returns-then-branch c =
    let named = is_named c.args.graph.now c.args.text.now in
    sym (ap first_use c.loop-one.invariant ∙ is_first named c.args.uses.now c.loop-one.one-index _ c.loop-one-test.true (sym c.in_ok-names_use.ensures ∙ c.if-branch.true))
