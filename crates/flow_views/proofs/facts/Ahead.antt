-- The point before one in its procedure is shown where that one is, and what a set there tells.
use Rattle.std.proofs.Common.{◌≡◌, ℕ, zero, suc, ◌-◌, ◌<◌, ◌≤◌, Bool, true, false, not, ◌&&◌, IfSome, length, Option, Some, None, nat_eq}
use Rattle.std.proofs.Common.{if◌then◌else◌, refl, ap, subst, sym, ◌∙◌, arith}
use Rattle.tac_program.specs.Programs.{Program}
use Rattle.flow_graph.specs.Points.{entry_point, place_of, point_count, procedure_at}
use Rattle.flow_graph.specs.ProgramLaws.{IsPlaceOf}
use Rattle.flow_graph.proofs.places.PointLemmas.{points_have_places}
use Rattle.flow_team.specs.Tables.{Facts}
use Rattle.point_sets.specs.Changes.{set_against, set_ahead}
use Rattle.point_sets.specs.declared.side.Side.{Side}
use Rattle.point_sets.specs.declared.side.Side.TheVariants.{Before, Behind}
use Rattle.flow_views.specs.Views.{end_shown, first_shown}
use Rattle.flow_views.specs.code.ViewProgram.{TellSame}
use Rattle.flow_views.proofs.facts.Behind.{procedure_of}

some_place : (place : ℕ) → nat_eq place 0 ≡ false → 1 ≤ place
some_place zero is = absurd (cc is)
some_place (suc place) is = omega arith

-- where it is not the first one
pub before_shown : (program : Program) (procedure : Option ℕ) → IfSome procedure (λ p. p < length program.procedures) → (point : ℕ)
    → point < point_count program → (first_shown program procedure ≤ point) × (point < end_shown program procedure)
    → nat_eq (place_of program point).place 0 ≡ false
    → (first_shown program procedure ≤ point - 1) × (point - 1 < end_shown program procedure)
before_shown program None there point below at is = (omega arith, omega (arith, at.1))
before_shown program (Some procedure) there point below at is =
    let place : IsPlaceOf program point = points_have_places program point below in
    let same : procedure_at program point ≡ procedure = procedure_of program procedure point there at.0 at.1 in
    let some : 1 ≤ (place_of program point).place = some_place (place_of program point).place is in
    (omega (arith, place.back, some, ap (entry_point program) same), omega (arith, at.1))

-- that one, or the first one itself
pub ahead_shown : (program : Program) (procedure : Option ℕ) → IfSome procedure (λ p. p < length program.procedures) → (point : ℕ)
    → point < point_count program → (first_shown program procedure ≤ point) × (point < end_shown program procedure)
    → (ahead : ℕ) → ahead ≡ (if nat_eq (place_of program point).place 0 then point else point - 1)
    → (first_shown program procedure ≤ ahead) × (ahead < end_shown program procedure)
ahead_shown program procedure there point below at ahead told = by_test (nat_eq (place_of program point).place 0) refl
  where
    shown : ℕ → Type 0
    shown = λ p. (first_shown program procedure ≤ p) × (p < end_shown program procedure)

    by_test : (b : Bool) → nat_eq (place_of program point).place 0 ≡ b → (first_shown program procedure ≤ ahead) × (ahead < end_shown program procedure)
    by_test true is = subst shown (sym (told ∙ ap (λ (t : Bool). if t then point else point - 1) is)) at
    by_test false is =
        subst shown (sym (told ∙ ap (λ (t : Bool). if t then point else point - 1) is)) (before_shown program procedure there point below at is)

pub ahead_below : (program : Program) (point : ℕ) → point < point_count program → (ahead : ℕ)
    → ahead ≡ (if nat_eq (place_of program point).place 0 then point else point - 1) → ahead < point_count program
ahead_below program point below ahead told = by_test (nat_eq (place_of program point).place 0) refl
  where
    by_test : (b : Bool) → nat_eq (place_of program point).place 0 ≡ b → ahead < point_count program
    by_test true is = omega (arith, below, told ∙ ap (λ (t : Bool). if t then point else point - 1) is)
    by_test false is = omega (arith, below, told ∙ ap (λ (t : Bool). if t then point else point - 1) is)

-- The set of a change from the point before: empty at the first point, whatever stands there.
abbrev without : (ℕ → Bool) → Bool → ℕ → Bool
without set none = λ bit. not none && set bit

ahead_is : (first : Bool) (sets : ℕ → ℕ → Bool) (point : ℕ)
    → ◌≡◌ {A = ℕ → Bool} (λ bit. not first && sets (if first then point else point - 1) bit) (λ bit. not first && sets (point - 1) bit)
ahead_is true sets point = refl
ahead_is false sets point = refl

pub set_from : (program : Program) (facts : Facts) (point ahead : ℕ) (set : ℕ → Bool) (first : Bool)
    → first ≡ nat_eq (place_of program point).place 0 → set ≡ facts.contains ahead → ahead ≡ (if first then point else point - 1)
    → ◌≡◌ {A = ℕ → Bool} (λ bit. not first && set bit) (set_ahead program facts point)
set_from program facts point ahead set first is same told =
    ap (λ (s : ℕ → Bool). without s first) same
    ∙ ap (λ (n : ℕ). without (facts.contains n) first) told
    ∙ ahead_is first facts.contains point
    ∙ ap (without (facts.contains (point - 1))) is

-- Facts that tell the same at the points that are shown have the same set ahead of one of them.
module _ (program : Program) (procedure : Option ℕ) (there : IfSome procedure (λ p. p < length program.procedures)) (one other : Facts)
    (told : (point : ℕ) → (first_shown program procedure ≤ point) × (point < end_shown program procedure) → TellSame one other point)
    (point : ℕ) (below : point < point_count program)
    (at : (first_shown program procedure ≤ point) × (point < end_shown program procedure)) where
  pub same_ahead : set_ahead program one point ≡ set_ahead program other point
  same_ahead = by_test (nat_eq (place_of program point).place 0) refl
    where
      set : Facts → Bool → ℕ → Bool
      set = λ facts first bit. not first && facts.contains (point - 1) bit

      by_test : (b : Bool) → nat_eq (place_of program point).place 0 ≡ b
          → set one (nat_eq (place_of program point).place 0) ≡ set other (nat_eq (place_of program point).place 0)
      by_test true first = ap (set one) first ∙ sym (ap (set other) first)
      by_test false later =
          let same = told (point - 1) (before_shown program procedure there point below at later) in
          λ i bit. not (nat_eq (place_of program point).place 0) && same.set i bit

  pub same_against : (side : Side) → set_against side program one point ≡ set_against side program other point
  same_against Before = same_ahead
  same_against Behind = (told point at).set
