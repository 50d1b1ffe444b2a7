use Rattle.std.proofs.Common.{◌∙◌, ℕ, ◌+◌, ◌-◌, Bool, ◌||◌, sym, ap, arith}
use Rattle.std.specs.List.{list_any, range_with_len}
use Rattle.flow_graph.specs.Transfers.{kills}
use Rattle.block_dots.proofs.points.Ranges.{any_first, range_none}
use Rattle.block_dots.proofs.exposed.kills_some.Goals as goal

pub returns-then-kills : goal.returns-then-kills
returns-then-kills c =
    let test : ℕ → Bool = λ p. kills c.args.graph.now c.args.analysis p c.args.bit in
    sym (c.loop-point.invariant ∙ any_first test c.loop-point.point c.args.end c.loop-point-test.true
    ∙ ap (λ (b : Bool). b || list_any test (range_with_len (c.loop-point.point + 1) (c.args.end - (c.loop-point.point + 1))))
    (sym c.kills.ensures ∙ c.if-kills.true))

pub loop-point-preserved : goal.loop-point-preserved
loop-point-preserved c =
    let test : ℕ → Bool = λ p. kills c.args.graph.now c.args.analysis p c.args.bit in
    c.loop-point.invariant ∙ any_first test c.loop-point.point c.args.end c.loop-point-test.true
    ∙ ap (λ (b : Bool). b || list_any test (range_with_len (c.loop-point.point + 1) (c.args.end - (c.loop-point.point + 1))))
    (sym c.kills.ensures ∙ c.if-kills.false)

pub returns : goal.returns
returns c =
    let test : ℕ → Bool = λ p. kills c.args.graph.now c.args.analysis p c.args.bit in
    sym (c.loop-point.invariant ∙ ap (list_any test) (range_none c.loop-point.point c.args.end (omega (arith, c.loop-point-test.false))))
