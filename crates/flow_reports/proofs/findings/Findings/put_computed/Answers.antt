use Rattle.std.proofs.Common.{sym}
use Rattle.flow_reports.proofs.findings.Findings.put_computed.Goals as goal

pub has-computed-requires-clause-queried : goal.has-computed-requires-clause-queried
has-computed-requires-clause-queried c =
    (c.requires.found.answers.queried c.args.point c.places-number.result c.args.kind.now c.places-number.ensures c.requires.kind).evaluated
    c.in-Some.bit (sym c.in-Some.ensures)
