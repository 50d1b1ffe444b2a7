-- A definition is of a variable that is there, by a statement at a point that is there.
use Rattle.std.proofs.Common.{◌≡◌, ℕ, zero, suc, ◌<◌, List, [], ◌∷◌, length, flat_map, Option, Some, None, option_and_then, slice_get, Contains, inl}
use Rattle.std.proofs.Common.{inr, refl, sym, subst, arith}
use Rattle.std.specs.List.{range_with_len}
use Rattle.tac_program.specs.Programs.{Program}
use Rattle.tac_program.specs.Sound.{IsSound, IsSoundStatement}
use Rattle.tac_program.specs.declared.program.StmtKind.{StmtKind}
use Rattle.tac_program.specs.declared.program.StmtKind.TheVariants as kind
use Rattle.flow_graph.specs.Points.{points, point_count, kind_at}
use Rattle.flow_graph.specs.Universes.{Definition, definition_at, definitions, dummies, target_at, defined_variable, IsDefinitionIn}
use Rattle.std.proofs.lemmas.List.Elements.{Contains-append_cases}
use Rattle.flow_graph.proofs.lists.Membership.{Contains-first, Contains-later, Contains-nil, Contains-one, Contains-in_map, Contains-in_flat_map}
use Rattle.flow_graph.proofs.lists.Membership.{Contains-in_range}
use Rattle.flow_graph.proofs.places.Standing.{stands}

slice_get_contains : {A : Type 0} (xs : List A) (i : ℕ) (x : A) → slice_get xs i ≡ Some x → Contains xs x
slice_get_contains [] i x at = absurd (cc at)
slice_get_contains (y ∷ xs) zero x at = subst (Contains (y ∷ xs)) (cc at) (Contains-first y xs)
slice_get_contains (y ∷ xs) (suc i) x at = Contains-later y xs x (slice_get_contains xs i x at)

-- what a sound statement sets is there
target_there : (variables labels procedures : ℕ) (k : StmtKind) (x : ℕ) → IsSoundStatement variables labels procedures k → defined_variable k ≡ Some x
    → x < variables
target_there variables labels procedures (kind.Copy y z) x sound is = subst (λ v. v < variables) (cc is) sound.0
target_there variables labels procedures (kind.Unary y o z) x sound is = subst (λ v. v < variables) (cc is) sound.target
target_there variables labels procedures (kind.Binary o y l r) x sound is = subst (λ v. v < variables) (cc is) sound.target
target_there variables labels procedures (kind.Read y) x sound is = subst (λ v. v < variables) (cc is) sound
target_there variables labels procedures _ x sound is = absurd (cc is)

at_target : (program : Program) (point : ℕ) (k : Option StmtKind) (x : ℕ) → option_and_then defined_variable k ≡ Some x
    → (s : StmtKind) × (k ≡ Some s) × (defined_variable s ≡ Some x)
at_target program point None x is = absurd (cc is)
at_target program point (Some s) x is = (s, refl, is)

made_there : (program : Program) (point : ℕ) (d : Definition) → IsSound program → point < point_count program
    → (t : Option ℕ) → target_at program point ≡ t
    → Contains (elim t [ Some x ↦ (x, Some point) ∷ [] | None ↦ [] ]) d → IsDefinitionIn program d
made_there program point d sound below None at among = absurd (Contains-nil d among)
made_there program point d sound below (Some x) at among =
    let (k, here, sets) = at_target program point (kind_at program point) x at in
    let s = stands program sound point k below here in
    subst (IsDefinitionIn program) (sym (Contains-one (x, Some point) d among))
    (record {
      variable = target_there (length program.variable_names) (length s.at.labels) (length program.procedures) k x s.sound sets;
      point = below;
    })

pub definitions_there : (program : Program) (bit : ℕ) (d : Definition) → IsSound program → slice_get (definitions program) bit ≡ Some d
    → IsDefinitionIn program d
definitions_there program bit d sound at =
    elim (Contains-append_cases (dummies program) (flat_map (definition_at program) (points program)) d
    (slice_get_contains (definitions program) bit d at)) [
      | inl dummy ↦ (
          let (x, among, is) = Contains-in_map (λ v. (v, None)) (range_with_len 0 (length program.variable_names)) d dummy in
          subst (IsDefinitionIn program) (sym is)
          (record { variable = (let e = (Contains-in_range 0 (length program.variable_names) x among).1 in omega arith); point = tt }))
      | inr made ↦ (
          let (point, among, is) = Contains-in_flat_map (definition_at program) (points program) d made in
          made_there program point d sound (let e = (Contains-in_range 0 (point_count program) point among).1 in omega arith)
          (target_at program point) refl is)
    ]
