use Rattle.std.proofs.Common.{◌≡◌, ◌↔◌, ◌+◌, ◌*◌, ◌<◌, true, sym, subst}
use Rattle.bit_rows.specs.Words.{has_bit}
use Rattle.flow_graph.specs.Points.{point_count}
use Rattle.flow_team.specs.Sets.{IsInColumns}
use Rattle.gen_kill.specs.Selections.{Selection}
use Rattle.flow_queries.proofs.queries.Told.{word_told}
use Rattle.flow_queries.proofs.solved_words.SolvedWords.word.Goals as goal

pub returns-clause-tells : goal.returns-clause-tells
returns-clause-tells c = λ k small.
    let solved = c.solve_to-from.ensures in
    let inside = subst (λ (s : Selection). c.args.point < point_count s.program) (sym c.self.view_is) c.requires.point in
    subst (λ (s : Selection). (has_bit c.word.result k ≡ true) ↔ IsInColumns s c.args.point (64 * c.args.word + k)) c.self.view_is
    (word_told c.self.inside.solver.now c.solve_to-from.new.words c.solve_to-from.result.0 c.solve_to-from.result.1 c.args.point c.args.word k
    c.word.result solved.solved solved.here.0 solved.here.1 inside small c.word.ensures)
