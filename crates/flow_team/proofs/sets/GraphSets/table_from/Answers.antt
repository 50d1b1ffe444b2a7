use Rattle.std.proofs.Common.{◌≡◌, ◌∙◌, ◌+◌, length, sym, ap, subst}
use Rattle.flow_graph.specs.Analyses.{is_must}
use Rattle.flow_graph.specs.Problems.{MayForm}
use Rattle.gen_kill.specs.Selections.{Selection}
use Rattle.flow_team.specs.Excerpts.{IsTableAt}
use Rattle.flow_team.specs.code.Complements.{table_facts, complemented_table}
use Rattle.flow_team.proofs.facts.ExcerptTables.{complemented_is_excerpt}
use Rattle.flow_team.proofs.sets.GraphSets.table_from.Goals as goal

pub returns-clause-table : goal.returns-clause-table
returns-clause-table c =
    let form = c.args.self.now in
    let analysis : c.analysis-analysis.result ≡ form.analysis =
    c.analysis-analysis.ensures ∙ ap (λ (s : Selection). s.analysis) c.problem.ensures ∙ ap (λ (f : MayForm). f.analysis) c.self.view_is in
    let must = c.join.ensures ∙ ap is_must analysis in
    let rows = c.of-words.ensures ∙ ap (λ t. complemented_table t c.args.posted) must in
    subst (IsTableAt form.program c.args.first (c.args.first + length c.args.posted.flags))
    (sym (c.of.ensures ∙ (λ i. table_facts c.args.first (analysis i) (rows i))))
    (complemented_is_excerpt form c.args.first c.args.posted c.requires.range.1 c.requires.flags c.requires.rows)
