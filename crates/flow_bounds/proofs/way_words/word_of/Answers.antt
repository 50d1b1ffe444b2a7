use Rattle.std.proofs.Common.{◌≤◌, length, refl, arith}
use Rattle.flow_regions.specs.code.Ways.{point_in}
use Rattle.flow_regions.specs.declared.way.Hop.TheVariants.{Begins, Passes, Steps}
use Rattle.flow_bounds.proofs.paths.Words.{begun, behind_call, behind_step, hop_here, step_there}
use Rattle.flow_bounds.proofs.way_words.word_of.Goals as goal

pub stepped-requires-clause-there : goal.stepped-requires-clause-there
stepped-requires-clause-there c =
    let hop = hop_here c.args.frame.now c.requires.frame c.args.ways.now c.requires.ways c.args.number c.requires.there (Steps c.in-Steps.before)
    c.in-Steps.is in
    step_there c.args.frame.now c.requires.frame c.args.ways.now c.requires.ways c.args.number (point_in c.args.ways.now c.args.number) c.in-Steps.before hop

pub returns-in-Begins : goal.returns-in-Begins
returns-in-Begins c =
    let hop = hop_here c.args.frame.now c.requires.frame c.args.ways.now c.requires.ways c.args.number c.requires.there Begins c.in-Begins.is in
    begun c.args.frame.now c.requires.frame c.args.ways.now c.requires.ways c.args.number (point_in c.args.ways.now c.args.number) 0 hop refl
    18446744073709551615

pub returns-in-Steps : goal.returns-in-Steps
returns-in-Steps c =
    let hop = hop_here c.args.frame.now c.requires.frame c.args.ways.now c.requires.ways c.args.number c.requires.there (Steps c.in-Steps.before)
    c.in-Steps.is in
    let low : c.args.number ≤ length c.args.ways.now = omega (arith, c.requires.there) in
    behind_step c.args.frame.now c.requires.frame c.args.ways.now c.requires.ways c.args.number low c.args.words.now.kept.items
    c.args.words.now.made.items c.requires.before (point_in c.args.ways.now c.args.number) c.in-Steps.before c.stepped.result.0 c.stepped.result.1 hop
    c.stepped.ensures.kept c.stepped.ensures.made

pub returns-in-Passes : goal.returns-in-Passes
returns-in-Passes c =
    let hop = hop_here c.args.frame.now c.requires.frame c.args.ways.now c.requires.ways c.args.number c.requires.there
    (Passes c.in-Passes.before c.in-Passes.exit) c.in-Passes.is in
    let low : c.args.number ≤ length c.args.ways.now = omega (arith, c.requires.there) in
    behind_call c.args.frame.now c.requires.frame c.args.ways.now c.requires.ways c.args.number low c.args.words.now.kept.items
    c.args.words.now.made.items c.requires.before (point_in c.args.ways.now c.args.number) c.in-Passes.before c.in-Passes.exit c.passed.result.0
    c.passed.result.1 hop c.passed.ensures.kept c.passed.ensures.made
