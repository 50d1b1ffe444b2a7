-- A procedure of sound numbers is sound.
use Rattle.std.proofs.Common.{◌≡◌, ◌∙◌, ℕ, ◌<◌, ◌≤◌, List, All, length, get_or, map, unwrap_or, is_some, sym, ap, subst, arith}
use Rattle.std.specs.List.Sorted.{IsNonDecreasing}
use Rattle.std.proofs.Math.ListN.{get_or-map, length-map}
use Rattle.std.proofs.lemmas.List.{get_or_default, length-take-le}
use Rattle.tac_program.specs.Sound.{AllDiffer, IsLawfulName, IsSoundProcedure, IsSoundStatement}
use Rattle.tac_program.specs.declared.program.Label.{Label}
use Rattle.tac_program.specs.declared.program.Stmt.{Stmt}
use Rattle.tac_program.specs.declared.program.StmtKind.TheVariants as kind
use Rattle.flow_builder.specs.Built.{labels_from, procedure_of, statement_of}
use Rattle.flow_builder.specs.Checks.{IsKnown, IsSoundNumbers}
use Rattle.flow_builder.specs.declared.arrays.BuiltStatement.{BuiltStatement}
use Rattle.flow_builder.proofs.Lists.{All_take, differ_take, length-labels, numbered, places_of_labels}

pub known : (variables labels procedures : ℕ) (callees : List ℕ) (built : List BuiltStatement)
    → All (IsSoundNumbers variables labels procedures callees) built → All (IsKnown callees) built
known variables labels procedures callees built sound k d below = let (k, at, _) = sound k d below in ap is_some at

sound_statement : (variables labels procedures : ℕ) (callees : List ℕ) (s : BuiltStatement) → IsSoundNumbers variables labels procedures callees s
    → IsSoundStatement variables labels procedures (statement_of callees s).kind
sound_statement variables labels procedures callees s (k, at, sound) =
    subst (IsSoundStatement variables labels procedures) (sym (ap (λ o. unwrap_or o kind.Skip) at)) sound

sound_statements : (variables labels procedures : ℕ) (callees : List ℕ) (built : List BuiltStatement)
    → All (IsSoundNumbers variables labels procedures callees) built
    → All (λ (s : Stmt). IsSoundStatement variables labels procedures s.kind) (map (statement_of callees) built)
sound_statements variables labels procedures callees built sound k d below =
    let inside : k < length built = omega (arith, below, length-map built (statement_of callees)) in
    let e : BuiltStatement = get_or built k nothing in
    let is : get_or (map (statement_of callees) built) k d ≡ statement_of callees e =
    get_or_default (map (statement_of callees) built) k d (statement_of callees nothing) below ∙ get_or-map (statement_of callees) built k nothing in
    subst (λ (s : Stmt). IsSoundStatement variables labels procedures s.kind) (sym is)
    (sound_statement variables labels procedures callees e (sound k nothing inside))
  where
    nothing : BuiltStatement
    nothing = record {
      kind = 0;
      target = 0;
      operator = 0;
      label = 0;
      first_callee = 0;
      callees = 0;
      line = 0;
      left = record { kind = 0; variable = 0; number = 0 };
      right = record { kind = 0; variable = 0; number = 0 };
    }

placed : (n most : ℕ) (places : List ℕ) → All (λ place. place ≤ most) places → All (λ (l : Label). l.place ≤ most) (labels_from n places)
placed n most places each k d below =
    let inside : k < length places = omega (arith, below, length-labels n places) in
    let is : (get_or (labels_from n places) k d).place ≡ get_or places k d.place =
    sym (get_or-map (λ (l : Label). l.place) (labels_from n places) k d) ∙ ap (λ ps. get_or ps k d.place) (places_of_labels n places) in
    omega (arith, is, each k d.place inside)

pub sound_procedure : (variables procedures n : ℕ) (label_names : List (List ℕ)) (callees : List ℕ) (built : List BuiltStatement) (places : List ℕ)
    → length places ≤ length label_names → All IsLawfulName label_names → AllDiffer label_names → All (λ p. p ≤ length built) places
    → IsNonDecreasing places → All (IsSoundNumbers variables (length places) procedures callees) built
    → IsSoundProcedure variables procedures (procedure_of label_names callees n built places)
sound_procedure variables procedures n label_names callees built places enough lawful differ within rise sound = record {
  numbered = numbered places;
  named = length-take-le (length places) label_names enough ∙ sym (length-labels 0 places);
  placed = placed 0 (length (map (statement_of callees) built)) places
      (λ k d below. omega (arith, within k d below, length-map built (statement_of callees)));
  rise = subst IsNonDecreasing (sym (places_of_labels 0 places)) rise;
  lawful = All_take IsLawfulName (length places) label_names enough lawful;
  differ = differ_take (length places) label_names enough differ;
  statements =
      subst (λ m. All (λ (s : Stmt). IsSoundStatement variables m procedures s.kind) (map (statement_of callees) built)) (sym (length-labels 0 places))
      (sound_statements variables (length places) procedures callees built sound);
}
