use Rattle.std.proofs.Common.{subst}
use Rattle.flow_queries.specs.code.Solving.{IsAskedWord}
use Rattle.tac_program.specs.Programs.{Program}
use Rattle.flow_queries.proofs.queried.QueriedWords.wanted_word.Goals as goal

pub returns-clause-tells : goal.returns-clause-tells
returns-clause-tells c = λ query there.
    let rest = c.left-found.result.0 in
    let told = subst (λ (p : Program). IsAskedWord p rest c.asked-solved.result) c.requires.program c.asked-solved.ensures.tells in
    c.joined.ensures c.args.self.now.program query rest (c.left-found.ensures.split query there) told
