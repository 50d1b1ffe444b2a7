use Rattle.std.proofs.Common.{◌++◌, codes, decimal}
use Rattle.tac_listing.specs.Listings.{statement_text}
use Rattle.flow_views.specs.Views.{names_at}
use Rattle.text_pieces.proofs.sinks.Escapes.{shows_then}
use Rattle.dot_texts.proofs.dots.write_statement_title.Goals as goal

pub returns : goal.returns
returns g c =
    shows_then (decimal c.args.stmt.now.span.line ++ codes ": ")
    (statement_text (names_at c.args.shown.now.found.graph.now c.args.point) c.args.stmt.now.kind) _ _ _
    (shows_then (decimal c.args.stmt.now.span.line) (codes ": ") _ _ _ c.write_escaped_number.ensures c.write.ensures)
    c.write_statement.ensures
