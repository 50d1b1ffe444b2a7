use Rattle.std.proofs.Common.{◌≡◌, ◌++◌, ℕ, Some, None, codes, decimal, ap, sym}
use Rattle.flow_graph.specs.Points.{statement_at}
use Rattle.json_statements.specs.Parts.{bytes_at}
use Rattle.tac_program.specs.Programs.{Program}
use Rattle.text_pieces.proofs.sinks.Taking.{takes_as}
use Rattle.json_statements.proofs.statements.write_bytes.Goals as goal

-- a procedure's end has no bytes
no_bytes : (program : Program) (point : ℕ) → statement_at program point ≡ None → bytes_at program point ≡ codes ",\"start\":null,\"end\":null"
no_bytes program point ends =
    ap
    (λ o. elim o [
      | Some statement ↦ codes ",\"start\":" ++ decimal statement.span.start ++ codes ",\"end\":" ++ decimal statement.span.end
      | None ↦ codes ",\"start\":null,\"end\":null"
    ])
    ends

pub returns-in-None : goal.returns-in-None
returns-in-None g c = takes_as _ _ _ _ c.write.ensures (sym (no_bytes c.args.graph.now c.args.point (sym c.in-None.ensures.stmt)))
