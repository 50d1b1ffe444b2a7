use Rattle.std.proofs.Common.{ℕ, length, option_map, sym, ap, subst, ◌∙◌}
use Rattle.text_pieces.proofs.sinks.Taking.{takes_as}
use Rattle.tac_listing.specs.Listings.{statement_text, names_in}
use Rattle.tac_program.specs.Programs.{Program}
use Rattle.tac_program.specs.Sound.{IsSoundStatement}
use Rattle.tac_program.specs.declared.program.Stmt.{Stmt}
use Rattle.text_pieces.specs.Strings.{escaped}
use Rattle.flow_views.proofs.facts.Statements.{sound_here}
use Rattle.flow_views.proofs.point_names.write_statement_of.Goals as goal

pub write_statement-requires-clause-sound : goal.write_statement-requires-clause-sound
write_statement-requires-clause-sound g c =
    let program : Program = c.args.graph.now in
    let here = sound_here program c.points.ensures.sound c.args.point c.args.stmt.now.kind c.requires.point
    (ap (option_map (λ (s : Stmt). s.kind)) c.requires.statement) in
    subst (λ (p : Program). IsSoundStatement (length p.variable_names) (length (names_in p c.scope_of.result.procedure).labels)
    (length p.procedure_names) c.args.stmt.now.kind) (sym c.scope_of.ensures.program)
    (subst (λ (q : ℕ). IsSoundStatement (length program.variable_names) (length (names_in program q).labels) (length program.procedure_names)
    c.args.stmt.now.kind) (sym c.scope_of.ensures.procedure) here)

pub returns : goal.returns
returns g c =
    let program : Program = c.args.graph.now in
    takes_as _ _ _ _ c.write_statement.ensures
    (ap (λ (p : Program). escaped (statement_text (names_in p c.scope_of.result.procedure) c.args.stmt.now.kind)) c.scope_of.ensures.program
    ∙ ap (λ (q : ℕ). escaped (statement_text (names_in program q) c.args.stmt.now.kind)) c.scope_of.ensures.procedure)
