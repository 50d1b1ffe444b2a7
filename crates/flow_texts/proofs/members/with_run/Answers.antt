use Rattle.flow_texts.specs.code.Members.{chosen}
use Rattle.flow_texts.proofs.sets.ListTexts.{wrote-run}
use Rattle.flow_texts.proofs.members.with_run.Goals as goal

pub returns-clause-wrote : goal.returns-clause-wrote
returns-clause-wrote g c =
    let run = c.args.run in
    wrote-run _ (chosen c.args.texts.now.texts g.member) run.others run.first run.end c.args.first _ _ c.write_run-others.result
    c.requires.1.1.0.ordered c.requires.1.1.0.before c.requires.1.1.0.inside c.requires.1.1.0.behind c.write_run-others.ensures.writes
    c.write_run-others.ensures.any
