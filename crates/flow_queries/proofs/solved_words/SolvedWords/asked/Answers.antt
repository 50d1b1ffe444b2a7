use Rattle.std.proofs.Common.{◌≡◌, ◌∙◌, subst}
use Rattle.gen_kill.specs.Selections.{Selection, all_bits}
use Rattle.flow_queries.proofs.queries.Told.{none_asked, whole_asked}
use Rattle.flow_queries.proofs.solved_words.SolvedWords.asked.Goals as goal

pub returns-then-is_whole-clause-tells : goal.returns-then-is_whole-clause-tells
returns-then-is_whole-clause-tells c =
    let whole = subst (λ (s : Selection). s ≡ all_bits s.program s.analysis) (c.problem.ensures ∙ c.self.view_is) (c.is_whole.ensures c.if-is_whole.true) in
    whole_asked c.args.self.now c.args.query c.word.result c.requires.columns.goes whole c.word.ensures.tells

pub returns-then-query-eq0-clause-tells : goal.returns-then-query-eq0-clause-tells
returns-then-query-eq0-clause-tells c = none_asked c.args.self.now.program c.args.query c.if-query-eq0.true
