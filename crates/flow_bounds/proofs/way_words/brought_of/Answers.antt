use Rattle.std.proofs.Common.{◌≤◌, length, arith}
use Rattle.flow_regions.specs.code.Ways.{procedure_in}
use Rattle.flow_regions.specs.declared.way.Hang.TheVariants.{Call, Root}
use Rattle.flow_bounds.proofs.paths.Words.{at_call, at_root, hang_here}
use Rattle.flow_bounds.proofs.way_words.brought_of.Goals as goal

pub returns-in-Root : goal.returns-in-Root
returns-in-Root c =
    let r = c.requires in
    let kept = c.args.words.now.kept.items in
    let made = c.args.words.now.made.items in
    let tree = c.args.tree.now in
    let hang = hang_here c.args.frame.now r.frame c.args.ways.now r.ways tree r.tree kept made r.words c.args.number r.there Root c.in-Root.is in
    at_root c.args.frame.now r.frame c.args.ways.now r.ways tree r.tree kept made r.words c.args.number (procedure_in tree c.args.number) hang

pub returns-in-Call : goal.returns-in-Call
returns-in-Call c =
    let r = c.requires in
    let kept = c.args.words.now.kept.items in
    let made = c.args.words.now.made.items in
    let tree = c.args.tree.now in
    let hang = hang_here c.args.frame.now r.frame c.args.ways.now r.ways tree r.tree kept made r.words c.args.number r.there
    (Call c.in-Call.caller c.in-Call.way) c.in-Call.is in
    let low : c.args.number ≤ length tree = omega (arith, r.there) in
    at_call c.args.frame.now r.frame c.args.ways.now r.ways tree r.tree kept made r.words c.args.number (procedure_in tree c.args.number)
    c.in-Call.caller c.in-Call.way c.called.result c.args.branches.now low r.before hang c.called.ensures
