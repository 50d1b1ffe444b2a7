-- Where blocks lie
use Rattle.std.proofs.Common.{◌≡◌, ℕ, suc, ◌-◌, ◌<◌, ◌≤◌, Bool, true, false, not, length, IfSome, ◌⊎◌, inl, inr, nat_eq, Option, Some, None}
use Rattle.std.proofs.Common.{refl, ap, subst, arith}
use Rattle.flow_graph.specs.Points.{end_point, place_of, point_count, procedure_at}
use Rattle.flow_graph.specs.ProgramLaws.{IsPlaceOf}
use Rattle.flow_graph.proofs.places.PointLemmas.{points_have_places}
use Rattle.flow_views.specs.Views.{end_shown, first_shown, labels_at}
use Rattle.flow_views.proofs.facts.Behind.{procedure_of}
use Rattle.flow_views.proofs.facts.Tables.{ends_below}
use Rattle.tac_program.specs.Programs.{Program}
use Rattle.point_sets.specs.Sets.{has_behind}
use Rattle.text_pieces.specs.code.Lists.{some_stand}
use Rattle.std.proofs.lemmas.Bool.{and_parts}
use Rattle.std.proofs.Math.Nat.{eq-or-lt_of_le}
use Rattle.block_dots.specs.Blocks.{block_end, block_last, goes_on, goes_on_block, is_leader}
use Rattle.block_dots.proofs.points.Ranges.{found_before, found_within}

-- a point stands before its procedure's end, or there
pub before_end : (program : Program) (point : ℕ) → point < point_count program → point ≤ end_point program (procedure_at program point)
before_end program point below =
    let place : IsPlaceOf program point = points_have_places program point below in
    omega (arith, place.place, place.back)

-- a block begins before it ends, and ends in its procedure
pub block_bounds : (program : Program) (leader : ℕ) → leader < point_count program
    → (leader < block_end program leader) × (block_end program leader ≤ suc (end_point program (procedure_at program leader)))
block_bounds program leader below =
    let last : ℕ = end_point program (procedure_at program leader) in
    let within = found_within (is_leader program) (suc leader) (last - leader) (suc last) (omega (arith, before_end program leader below)) in
    (omega (arith, within.0), within.1)

pub block_below : (program : Program) (leader : ℕ) → leader < point_count program → block_end program leader ≤ point_count program
block_below program leader below =
    let place : IsPlaceOf program leader = points_have_places program leader below in
    let ends = ends_below program (procedure_at program leader) place.procedure in
    omega (arith, (block_bounds program leader below).1, ends)

-- its points are shown where the first one is
pub block_shown : (program : Program) (procedure : Option ℕ) → IfSome procedure (λ p. p < length program.procedures) → (leader : ℕ)
    → leader < point_count program → (first_shown program procedure ≤ leader) × (leader < end_shown program procedure)
    → (point : ℕ) → leader ≤ point → point < block_end program leader
    → (first_shown program procedure ≤ point) × (point < end_shown program procedure)
block_shown program None there leader below at point from to = (omega arith, omega (arith, to, block_below program leader below))
block_shown program (Some procedure) there leader below at point from to =
    let same : procedure_at program leader ≡ procedure = procedure_of program procedure leader there at.0 at.1 in
    (omega (arith, at.0, from), omega (arith, to, (block_bounds program leader below).1, ap (end_point program) same))

-- a point of a block that is not its first one goes on the block
pub goes_on_there : (program : Program) (leader point : ℕ) → leader < point_count program → leader < point → point < block_end program leader
    → goes_on_block program point ≡ true
goes_on_there program leader point below from to =
    let last : ℕ = end_point program (procedure_at program leader) in
    let none : is_leader program point ≡ false =
    found_before (is_leader program) (suc leader) (last - leader) (suc last) point (omega (arith, before_end program leader below))
    (omega (arith, from)) to in
    by_test (goes_on_block program point) none
  where
    by_test : (b : Bool) → not b ≡ false → b ≡ true
    by_test true is = refl
    by_test false is = absurd (cc is)

-- where a set of its own stands behind the first statement, one stands behind each
pub all_behind : (program : Program) (leader : ℕ) → leader < point_count program → has_behind program leader ≡ true
    → (point : ℕ) → leader ≤ point → point < block_end program leader → has_behind program point ≡ true
all_behind program leader below is point from to = by_order (eq-or-lt_of_le from)
  where
    by_order : (leader ≡ point) ⊎ (leader < point) → has_behind program point ≡ true
    by_order (inl same) = subst (λ (p : ℕ). has_behind program p ≡ true) same is
    by_order (inr above) =
        let goes = goes_on_there program leader point below above to in
        let rest = (and_parts (not (nat_eq (place_of program point).place 0)) _ goes).1 in
        let more = (and_parts (goes_on program (point - 1)) _ rest).1 in
        (and_parts (not (some_stand (labels_at program point))) _ more).1

pub last_behind : (program : Program) (leader : ℕ) → leader < point_count program → has_behind program leader ≡ true
    → has_behind program (block_last program leader) ≡ true
last_behind program leader below is =
    let bounds = block_bounds program leader below in
    all_behind program leader below is (block_last program leader) (omega (arith, bounds.0)) (omega (arith, bounds.0))
