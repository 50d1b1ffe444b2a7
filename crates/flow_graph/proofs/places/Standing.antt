-- A statement of a program that can be read, by the point before it
use Rattle.std.proofs.Common.{◌≡◌, ℕ, zero, suc, ◌<◌, List, [], ◌∷◌, length, Option, Some, None, option_map, slice_get, unwrap_or, All, refl, sym, ap}
use Rattle.std.proofs.Common.{◌∙◌, subst, arith}
use Rattle.std.proofs.lemmas.Option.{slice_get_within, get_or_from_slice_get}
use Rattle.std.proofs.lemmas.List.Elements.{All-get_or}
use Rattle.tac_program.specs.Programs.{Procedure, Program}
use Rattle.tac_program.specs.Sound.{IsSound, IsSoundProcedure, IsSoundStatement}
use Rattle.tac_program.specs.declared.program.Stmt.{Stmt}
use Rattle.tac_program.specs.declared.program.StmtKind.{StmtKind}
use Rattle.flow_graph.specs.Points.{place_of, procedure_at, statements_of, statement_at, kind_at, end_place, point_of, point_count}
use Rattle.flow_graph.specs.ProgramLaws.{IsPlaceOf}
use Rattle.flow_graph.proofs.places.PointLemmas.{points_have_places}

pub All-slice_get : {A : Type 0} (P : A → Type 0) (xs : List A) (i : ℕ) (x : A) → All P xs → slice_get xs i ≡ Some x → P x
All-slice_get P xs i x all at = subst P (get_or_from_slice_get xs i x x at) (All-get_or P xs i x (slice_get_within xs i x at) all)

pub slice_get_some : {A : Type 0} (xs : List A) (i : ℕ) → i < length xs → (x : A) × (slice_get xs i ≡ Some x)
slice_get_some [] i below = absurd (omega arith)
slice_get_some (x ∷ xs) zero below = (x, refl)
slice_get_some (x ∷ xs) (suc i) below = slice_get_some xs i (omega arith)

pub mapped_some : {A B : Type 0} (f : A → B) (x : Option A) (y : B) → option_map f x ≡ Some y → (a : A) × (x ≡ Some a) × (f a ≡ y)
mapped_some f None y at = absurd (cc at)
mapped_some f (Some a) y at = (a, refl, cc at)

pub mapped_none : {A B : Type 0} (f : A → B) (x : Option A) → option_map f x ≡ None → x ≡ None
mapped_none f None at = refl
mapped_none f (Some a) at = absurd (cc at)

-- what is known of a statement at a point
pub record Stands (program : Program) (point : ℕ) (kind : StmtKind) : Type 0 where
  pub at : Procedure
  pub known : slice_get program.procedures (procedure_at program point) ≡ Some at
  pub procedure : procedure_at program point < length program.procedures
  pub inside : (place_of program point).place < end_place program (procedure_at program point)
  pub back : point_of program (procedure_at program point) (place_of program point).place ≡ point
  pub sound_procedure : IsSoundProcedure (length program.variable_names) (length program.procedures) at
  pub sound : IsSoundStatement (length program.variable_names) (length at.labels) (length program.procedures) kind

pub stands : (program : Program) → IsSound program → (point : ℕ) (kind : StmtKind) → point < point_count program → kind_at program point ≡ Some kind
    → Stands program point kind
stands program sound point kind below is =
    let place : IsPlaceOf program point = points_have_places program point below in
    let pr : ℕ = procedure_at program point in
    let (p, known) : (p : Procedure) × (slice_get program.procedures pr ≡ Some p) = slice_get_some program.procedures pr place.procedure in
    let (s, at, same) = mapped_some (λ (s : Stmt). s.kind) (statement_at program point) kind is in
    let statements : statements_of program pr ≡ p.statements = ap (λ o. unwrap_or (option_map (λ (p : Procedure). p.statements) o) []) known in
    let there : slice_get p.statements (place_of program point).place ≡ Some s =
    sym (ap (λ xs. slice_get xs (place_of program point).place) statements) ∙ at in
    let sound_procedure : IsSoundProcedure (length program.variable_names) (length program.procedures) p =
    All-slice_get (IsSoundProcedure (length program.variable_names) (length program.procedures)) program.procedures pr p sound.procedures known in
    let sound_statement =
    All-slice_get (λ (s : Stmt). IsSoundStatement (length program.variable_names) (length p.labels) (length program.procedures) s.kind)
    p.statements (place_of program point).place s sound_procedure.statements there in
    record {
      at = p;
      known = known;
      procedure = place.procedure;
      inside = slice_get_within (statements_of program pr) (place_of program point).place s at;
      back = place.back;
      sound_procedure = sound_procedure;
      sound = subst (IsSoundStatement (length program.variable_names) (length p.labels) (length program.procedures)) same sound_statement;
    }
