use Rattle.std.proofs.Common.{◌+◌, ◌*◌, slice_index}
use Rattle.bit_rows.specs.Words.{has_bit}
use Rattle.gk_solve.specs.Tables.Words.{place_gens, place_kills}
use Rattle.gk_solve.proofs.words.EffectLemmas.{idle_in_group, unkilled_same, ungenerated_same}
use Rattle.gk_solve.proofs.effects.across_step.Goals as goal

pub returns-then-frame-point-eq0-clause-preserved : goal.returns-then-frame-point-eq0-clause-preserved
returns-then-frame-point-eq0-clause-preserved g c w k inside low =
    let idle = idle_in_group g.row.W c.args.frame.now c.requires.frame c.args.point c.requires.within c.if-frame-point-eq0.true w inside k low in
    unkilled_same (has_bit (slice_index c.args.before.preserved w) k)
    (place_kills c.args.frame.now.problem.now c.args.point (64 * (c.args.frame.now.first + w) + k)) idle.1

pub returns-then-frame-point-eq0-clause-generated : goal.returns-then-frame-point-eq0-clause-generated
returns-then-frame-point-eq0-clause-generated g c w k inside low =
    let idle = idle_in_group g.row.W c.args.frame.now c.requires.frame c.args.point c.requires.within c.if-frame-point-eq0.true w inside k low in
    ungenerated_same (has_bit (slice_index c.args.before.generated w) k)
    (place_gens c.args.frame.now.problem.now c.args.point (64 * (c.args.frame.now.first + w) + k))
    (place_kills c.args.frame.now.problem.now c.args.point (64 * (c.args.frame.now.first + w) + k)) idle.0 idle.1
