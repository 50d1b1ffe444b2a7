use Rattle.flow_reports.proofs.findings.Findings.is_computed.Goals as goal

pub has-requires-clause-queried : goal.has-requires-clause-queried
has-requires-clause-queried c =
    (c.requires.found.answers.queried c.args.point c.places-number.result c.args.kind.now c.places-number.ensures c.requires.kind).evaluated c.args.bit
    c.requires.bit
