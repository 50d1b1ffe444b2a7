use Rattle.std.proofs.Common.{◌∙◌, ℕ, ◌+◌, ◌-◌, Bool, false, not, ◌&&◌, ◌||◌, sym, ap, arith}
use Rattle.std.specs.List.{range_with_len}
use Rattle.flow_graph.specs.Transfers.{kills}
use Rattle.block_dots.specs.BlockSets.{exposed_up}
use Rattle.block_dots.proofs.sets.Exposed.{up_first, up_none}
use Rattle.block_dots.proofs.exposed.exposed_up.Goals as goal

pub returns-then-gens : goal.returns-then-gens
returns-then-gens c =
    let point : ℕ = c.loop-point.point in
    let rest : Bool = exposed_up c.args.graph.now c.args.analysis (range_with_len (point + 1) (c.args.end - (point + 1))) c.args.bit in
    sym (c.loop-point.invariant ∙ up_first c.args.graph.now c.args.analysis c.args.bit point c.args.end c.loop-point-test.true
    ∙ ap (λ (b : Bool). b || (not (kills c.args.graph.now c.args.analysis point c.args.bit) && rest)) (sym c.gens.ensures ∙ c.if-gens.true))

pub returns-then-kills : goal.returns-then-kills
returns-then-kills c =
    let point : ℕ = c.loop-point.point in
    let rest : Bool = exposed_up c.args.graph.now c.args.analysis (range_with_len (point + 1) (c.args.end - (point + 1))) c.args.bit in
    sym (c.loop-point.invariant ∙ up_first c.args.graph.now c.args.analysis c.args.bit point c.args.end c.loop-point-test.true
    ∙ ap (λ (b : Bool). b || (not (kills c.args.graph.now c.args.analysis point c.args.bit) && rest)) (sym c.gens.ensures ∙ c.if-gens.false)
    ∙ ap (λ (b : Bool). false || (not b && rest)) (sym c.kills.ensures ∙ c.if-kills.true))

pub loop-point-preserved : goal.loop-point-preserved
loop-point-preserved c =
    let point : ℕ = c.loop-point.point in
    let rest : Bool = exposed_up c.args.graph.now c.args.analysis (range_with_len (point + 1) (c.args.end - (point + 1))) c.args.bit in
    c.loop-point.invariant ∙ up_first c.args.graph.now c.args.analysis c.args.bit point c.args.end c.loop-point-test.true
    ∙ ap (λ (b : Bool). b || (not (kills c.args.graph.now c.args.analysis point c.args.bit) && rest)) (sym c.gens.ensures ∙ c.if-gens.false)
    ∙ ap (λ (b : Bool). false || (not b && rest)) (sym c.kills.ensures ∙ c.if-kills.false)

pub returns : goal.returns
returns c =
    sym (c.loop-point.invariant
    ∙ up_none c.args.graph.now c.args.analysis c.args.bit c.loop-point.point c.args.end (omega (arith, c.loop-point-test.false)))
