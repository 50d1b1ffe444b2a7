use Rattle.std.proofs.Common.{sym, ◌∙◌}
use Rattle.std.proofs.lemmas.Bool.{false≢true}
use Rattle.gk_solve.proofs.beginnings.Beginning.{no_bit}
use Rattle.gk_solve.proofs.solution.solution_at.Goals as goal

pub returns-then-not-frame-point : goal.returns-then-not-frame-point
returns-then-not-frame-point g c w k inside =
    (λ has. absurd (no_bit g.row.W w k has), λ parts. absurd (false≢true (sym c.if-not-frame-point.true ∙ parts.0)))
