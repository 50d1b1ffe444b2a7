-- What is told of a program is told at points that it has
use Rattle.std.proofs.Common.{ℕ, zero, suc, ◌+◌, ◌<◌, ◌≤◌, Bool, List, [], ◌∷◌, flat_map, Option, Some, None, subst, sym, arith}
use Rattle.std.specs.List.{All, range_with_len}
use Rattle.std.proofs.lemmas.List.Concat.{flat_map-cons}
use Rattle.std.proofs.lemmas.List.Elements.{All-append, All-cons, All-nil}
use Rattle.flow_graph.specs.Points.{point_count}
use Rattle.flow_lints.specs.Lints.{IsFirstOf, IsLinted, is_endless, lints_at, lints_placed_at}
use Rattle.flow_lints.specs.declared.lint.Lint.{Lint}
use Rattle.flow_lints.specs.declared.lint.Linted.{Linted}
use Rattle.flow_lints.specs.declared.lint.PlacedLint.{PlacedLint}
use Rattle.lint_texts.specs.code.Lines.{ArePlaced, IsPointIn}
use Rattle.tac_program.specs.Programs.{Program}

abbrev IsBelow : ℕ → PlacedLint → Type 0
IsBelow bound placed = placed.point < bound

placed_below : (bound point : ℕ) → point < bound → (lints : List Lint) → All (IsBelow bound) (lints_placed_at point lints)
placed_below bound point below [] = All-nil (IsBelow bound)
placed_below bound point below (lint ∷ lints) =
    All-cons (IsBelow bound) (record { point = point; lint = lint }) (lints_placed_at point lints) below (placed_below bound point below lints)

all_below : (told : ℕ → List Lint) (bound from count : ℕ) → from + count ≤ bound
    → All (IsBelow bound) (flat_map (λ point. lints_placed_at point (told point)) (range_with_len from count))
all_below told bound from zero fits = All-nil (IsBelow bound)
all_below told bound from (suc count) fits =
    subst (All (IsBelow bound)) (sym (flat_map-cons (λ point. lints_placed_at point (told point)) from (range_with_len (from + 1) count)))
    (All-append (IsBelow bound) (lints_placed_at from (told from))
    (flat_map (λ point. lints_placed_at point (told point)) (range_with_len (from + 1) count))
    (placed_below bound from (omega (arith, fits)) (told from)) (all_below told bound (from + 1) count (omega (arith, fits))))

first_below : (program : Program) (test : ℕ → Bool) (first : Option ℕ) → IsFirstOf test (point_count program) first → IsPointIn program first
first_below program test (Some point) is = is.0
first_below program test None is = tt

pub are_placed : (program : Program) (linted : Linted) → IsLinted program linted → ArePlaced program linted
are_placed program linted is = record {
  lints = subst (All (IsBelow (point_count program))) (sym is.lints)
      (all_below (lints_at program is.known) (point_count program) 0 (point_count program) (omega arith));
  endless = first_below program (is_endless is.known) linted.endless is.endless;
}
