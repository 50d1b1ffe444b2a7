use Rattle.std.proofs.Common.{◌<◌, false, length, ap, ◌∙◌, arith}
use Rattle.std.proofs.lemmas.List.{get_or_default}
use Rattle.flow_reports.specs.code.Findings.{knowledge_of}
use Rattle.call_dots.proofs.texts.marks_of.Goals as goal

pub is_reached-requires-clause-point : goal.is_reached-requires-clause-point
is_reached-requires-clause-point c =
    omega (arith, c.shown_points-points.ensures.first, c.shown_points-points.ensures.end, c.shown_points-points.ensures.there)

pub returns : goal.returns
returns c i =
    let shown = c.args.shown.now in
    let low : c.args.procedure < length shown.calls.recursive.items = omega (arith, c.requires.procedure, c.requires.shown.tables.count) in
    let reached = c.is_reached.ensures ∙ ap (knowledge_of shown.found).reach.has_path c.shown_points-points.ensures.first in
    let recursive = c.index.ensures ∙ get_or_default shown.calls.recursive.items c.args.procedure _ false low
    ∙ c.requires.shown.tables.recursive c.args.procedure c.requires.procedure in
    record { reached = reached i; recursive = recursive i }
