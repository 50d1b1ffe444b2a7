use Rattle.std.proofs.Common.{rules, ◌≡◌, ◌<◌, ◌⊎◌, length, ap, ◌∙◌, subst}
use Rattle.tac_program.specs.Limits.{most_definitions, most_expressions, most_variables}
use Rattle.tac_program.specs.Programs.{Program}
use Rattle.flow_graph.specs.Universes.{definitions, expressions}
use Rattle.flow_graph.proofs.graphs.LimitLemmas.{many_bits}
use Rattle.flow_graph.proofs.graph.Graph.build_within.Goals as goal

pub returns-then-has_many_bits-clause-many_bits : goal.returns-then-has_many_bits-clause-many_bits
returns-then-has_many_bits-clause-many_bits c is =
    let program : Program = c.args.program.now in
    let same : c.in_ok-points.points ≡ program = c.in_ok-points.ensures.program in
    let defined : c.len.result ≡ length (definitions program) =
    (let is : c.len.result ≡ length c.in_ok-definitions.definitions.items = search rules in is)
    ∙ ap length (c.in_ok-definitions.ensures ∙ ap definitions same) in
    let evaluated : c.len-2.result ≡ length (expressions program) =
    c.len-2.ensures.len ∙ ap length (c.in_ok-expressions.ensures.expressions ∙ ap expressions same) in
    let many = c.has_many_bits.ensures.many c.if-has_many_bits.true in (
      c.in_ok-points.ensures.few,
      many_bits c.args.limits program (subst (λ n. (most_definitions c.args.limits < n) ⊎ ((most_variables c.args.limits
          < length program.variable_names) ⊎ (most_expressions c.args.limits < length (expressions program)))) defined
          (subst (λ n. (most_definitions c.args.limits < c.len.result)
          ⊎ ((most_variables c.args.limits < n) ⊎ (most_expressions c.args.limits < length (expressions program)))) c.variables-variables.ensures
          (subst (λ n. (most_definitions c.args.limits < c.len.result)
          ⊎ ((most_variables c.args.limits < c.variables-variables.result) ⊎ (most_expressions c.args.limits < n))) evaluated many))),
    )
