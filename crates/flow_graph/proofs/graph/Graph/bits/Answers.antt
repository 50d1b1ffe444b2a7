use Rattle.std.proofs.Common.{rules, ◌≡◌, ◌<◌, ◌≤◌, length, ap, ◌∙◌, sym, arith}
use Rattle.tac_program.specs.Programs.{Program}
use Rattle.flow_graph.specs.Universes.{Reach, Live, Avail, Busy, definitions, expressions}
use Rattle.flow_graph.proofs.graph.Graph.bits.Goals as goal
use Rattle.tac_program.specs.Limits.{most_definitions, most_expressions, most_variables}
use Rattle.tac_program.specs.declared.limits.Limits.TheVariants.{Large}

pub overflow_cast-result : goal.overflow_cast-result
overflow_cast-result c =
    let len : c.len.result ≡ length c.self.inside.definitions.items = search rules in
    let few : length (definitions c.self.inside.points) ≤ most_definitions Large = c.self.invariant.0 Reach in
    let below : c.len.result < 4294967296 = omega (arith, ap length c.self.invariant.1) in
    search rules

pub overflow_cast-result-in-Avail : goal.overflow_cast-result-in-Avail
overflow_cast-result-in-Avail c =
    let len : c.len-in-Avail.result ≡ length c.self.inside.expressions.keys = search rules in
    let few : length (expressions c.self.inside.points) ≤ most_expressions Large = c.self.invariant.0 Avail in
    let below : c.len-in-Avail.result < 4294967296 = omega (arith, ap length c.self.invariant.2) in
    search rules

pub overflow_cast-result-in-Busy : goal.overflow_cast-result-in-Busy
overflow_cast-result-in-Busy c =
    let len : c.len-in-Busy.result ≡ length c.self.inside.expressions.keys = search rules in
    let few : length (expressions c.self.inside.points) ≤ most_expressions Large = c.self.invariant.0 Busy in
    let below : c.len-in-Busy.result < 4294967296 = omega (arith, ap length c.self.invariant.2) in
    search rules

pub returns-in-Reach-clause-most : goal.returns-in-Reach-clause-most
returns-in-Reach-clause-most c =
    let len : c.len.result ≡ length c.self.inside.definitions.items = search rules in
    let few : length (definitions c.self.inside.points) ≤ most_definitions Large = c.self.invariant.0 Reach in
    omega (arith, ap length c.self.invariant.1)

pub returns-in-Live-clause-most : goal.returns-in-Live-clause-most
returns-in-Live-clause-most c =
    let few : length c.self.inside.points.variable_names ≤ most_variables Large = c.self.invariant.0 Live in
    omega (arith, few, c.variables.ensures, ap (λ (p : Program). length p.variable_names) (c.program.ensures ∙ sym c.self.view_is))

pub returns-in-Avail-clause-most : goal.returns-in-Avail-clause-most
returns-in-Avail-clause-most c =
    let len : c.len-in-Avail.result ≡ length c.self.inside.expressions.keys = search rules in
    let few : length (expressions c.self.inside.points) ≤ most_expressions Large = c.self.invariant.0 Avail in
    omega (arith, ap length c.self.invariant.2)

pub returns-in-Busy-clause-most : goal.returns-in-Busy-clause-most
returns-in-Busy-clause-most c =
    let len : c.len-in-Busy.result ≡ length c.self.inside.expressions.keys = search rules in
    let few : length (expressions c.self.inside.points) ≤ most_expressions Large = c.self.invariant.0 Busy in
    omega (arith, ap length c.self.invariant.2)
