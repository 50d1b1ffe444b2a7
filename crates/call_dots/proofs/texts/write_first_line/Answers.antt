use Rattle.std.proofs.Common.{◌++◌, [], List, ℕ, Option, Some, None, codes, decimal, ap, ◌∙◌, arith}
use Rattle.flow_graph.specs.Points.{statement_at}
use Rattle.text_pieces.proofs.sinks.Taking.{takes_as, takes_then}
use Rattle.tac_program.specs.declared.program.Stmt.{Stmt}
use Rattle.call_dots.proofs.texts.write_first_line.Goals as goal

-- what a first statement's line says
line_of : Option Stmt → List ℕ
line_of o = elim o [ Some statement ↦ codes "line " ++ decimal statement.span.line ++ codes ", " | None ↦ [] ]

pub stmt-requires : goal.stmt-requires
stmt-requires g c = omega (arith, c.shown_points-points.ensures.first, c.shown_points-points.ensures.end, c.shown_points-points.ensures.there)

pub returns : goal.returns
unfolding line_of
returns g c =
    takes_as _ _ _ _ (takes_then _ _ _ _ _ (takes_then _ _ _ _ _ c.write.ensures c.write_number.ensures) c.write-2.ensures)
    (ap line_of (c.in-Some.ensures.stmt ∙ ap (statement_at c.args.graph.now) c.shown_points-points.ensures.first))
