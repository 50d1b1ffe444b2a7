use Rattle.std.proofs.Common.{◌<◌, inl, inr, sym, subst, ◌∙◌}
use Rattle.std.proofs.lemmas.Bool.{or_cases}
use Rattle.gen_kill.specs.Selections.{column_count}
use Rattle.gen_kill.specs.code.Effects.{marks}
use Rattle.flow_regions.specs.code.Lists.{ArePairs}
use Rattle.flow_regions.proofs.listed.Pairs.{dependent_more, keeps_trans}
use Rattle.flow_regions.proofs.touches.put_dependent.Goals as goal

pub returns-then-not-is_marked : goal.returns-then-not-is_marked
returns-then-not-is_marked c =
    dependent_more c.args.problem.now c.args.marked.now c.args.column _ _ _ _ c.requires.before c.requires.before.pairs (λ key value pair. pair)
    (λ variable low is depends. absurd (cc (sym is ∙ (sym c.is_marked.ensures ∙ c.if-not-is_marked.true))))

pub returns : goal.returns
returns c =
    let first = c.in_ok-put_if.ensures in
    let second = c.in_ok-put_if-2.ensures in
    let many = c.variables-variables.ensures.count in
    dependent_more c.args.problem.now c.args.marked.now c.args.column _ _ _ _ c.requires.before
    (subst (λ n. ArePairs n (column_count c.args.problem.now) c.put_if-2.new.pairs.keys.items c.put_if-2.new.pairs.values.items) many
    (second.pairs (column_count c.args.problem.now) (first.pairs (column_count c.args.problem.now)
    (subst (λ n. ArePairs n (column_count c.args.problem.now) c.args.pairs.now.keys.items c.args.pairs.now.values.items) (sym many)
    c.requires.before.pairs) c.requires.column) c.requires.column))
    (keeps_trans _ _ _ _ _ _ first.kept second.kept)
    (λ variable low is depends.
    let short = subst (λ n. variable < n) (sym many) low in
    elim (or_cases (marks c.variables_of-first.result.0 variable) (marks c.variables_of-first.result.1 variable)
    (c.variables_of-first.ensures variable ∙ depends)) [
      | inl is ↦ second.kept _ _ (first.here variable short is)
      | inr is ↦ second.here variable short is
    ])
