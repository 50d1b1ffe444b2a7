use Rattle.std.proofs.Common.{◌%◌, eqb, ap, ◌∙◌}
use Rattle.std.proofs.lemmas.Nat.Bits.{shr_and_one}
use Rattle.bit_rows.specs.Words.{has_bit}
use Rattle.flow_queries.specs.Queries.{Replies}
use Rattle.report_answers.proofs.queries.Answered.{word_known}
use Rattle.flow_reports.proofs.findings.Findings.has.Goals as goal

pub returns : goal.returns
unfolding has_bit
returns c =
    let replies : Replies = c.args.self.now.answers.now.replies in
    ap (λ x. eqb x 1) (shr_and_one c.word.result (c.args.bit % 64))
    ∙ ap (λ n. has_bit n (c.args.bit % 64)) c.word.ensures
    ∙ word_known c.args.self.now.answers.now.chosen c.args.self.now.graph.now replies c.requires.found.answers.answers c.requires.found.answers.only c.args.analysis c.args.point c.args.bit c.args.number c.requires.queried
