-- What a statement names is there
use Rattle.std.proofs.Common.{◌≡◌, ℕ, ◌<◌, length, Some, sym, ap, subst, ◌∙◌}
use Rattle.tac_program.specs.Programs.{Program}
use Rattle.tac_program.specs.Sound.{IsSound, IsSoundStatement}
use Rattle.tac_program.specs.declared.program.StmtKind.{StmtKind}
use Rattle.tac_listing.proofs.layouts.StatementNames.{labels_of}
use Rattle.flow_graph.specs.Points.{kind_at, point_count}
use Rattle.flow_graph.proofs.places.Standing.{Stands, stands}
use Rattle.flow_views.specs.Views.{names_at}

-- a statement's numbers lead to what is there
pub sound_here : (program : Program) → IsSound program → (point : ℕ) (kind : StmtKind) → point < point_count program
    → kind_at program point ≡ Some kind
    → IsSoundStatement (length program.variable_names) (length (names_at program point).labels) (length program.procedure_names) kind
sound_here program sound point kind below at =
    let stand : Stands program point kind = stands program sound point kind below at in
    let labels : length stand.at.labels ≡ length (names_at program point).labels =
    sym (ap (λ o. length (labels_of o)) stand.known ∙ stand.sound_procedure.named) in
    subst (λ n. IsSoundStatement (length program.variable_names) (length (names_at program point).labels) n kind) (sym sound.named)
    (subst (λ n. IsSoundStatement (length program.variable_names) n (length program.procedures) kind) labels stand.sound)
