use Rattle.std.proofs.Common.{◌≡◌, ◌∙◌, length, ap, arith}
use Rattle.gen_kill.specs.Selections.{Selection}
use Rattle.flow_reasons.specs.Holders.{HoldsValue}
use Rattle.flow_reasons.proofs.lists.Rising.{all_of, one_step}
use Rattle.flow_reasons.proofs.holders.list_holders.Goals as goal

pub loop-variable-preserved : goal.loop-variable-preserved
loop-variable-preserved c =
    let asked = c.args.asked.now in
    one_step (HoldsValue asked.graph.now asked.expression asked.at) c.loop-variable.variable c.loop-variable.list.items
    c.loop-variable.invariant c.in_ok-has.has c.put_if.new.numbers.items c.in_ok-has.ensures c.in_ok-put_if.ensures

pub returns : goal.returns
returns c =
    let asked = c.args.asked.now in
    all_of (HoldsValue asked.graph.now asked.expression asked.at) c.loop-variable.variable c.loop-variable.list.items c.loop-variable.invariant
    (λ m holds.
    let many : c.variables-variable-end.result ≡ length asked.graph.now.variable_names =
    c.variables-variable-end.ensures.count ∙ ap (λ (f : Selection). length f.program.variable_names) c.requires.asked.live_is in
    omega (arith, holds.below, c.loop-variable-test.false, many))
