-- Points and places are one to one
use Rattle.std.proofs.Common.{◌≡◌, ℕ, zero, suc, ◌+◌, ◌-◌, ◌<◌, ◌≤◌, Bool, true, false, List, [], ◌∷◌, length, take, option_map, slice_get, unwrap_or}
use Rattle.std.proofs.Common.{nat_lt, sum_by, if◌then◌else◌, refl, ap, ap₂, ◌∙◌, subst, arith}
use Rattle.std.proofs.lemmas.List.Sums.{sum_by-cons}
use Rattle.tac_program.specs.Programs.{Procedure}
use Rattle.tac_program.specs.declared.program.Stmt.{Stmt}
use Rattle.flow_graph.specs.Points.{Place, size_of, place_among, place_of, end_place, point_of}
use Rattle.flow_graph.specs.ProgramLaws.{PlacesHavePoints, PointsHavePlaces, IsPlaceOf}

-- the statements of a procedure among some
abbrev pub statements_among : List Procedure → ℕ → List Stmt
statements_among ps k = unwrap_or (option_map (λ p. p.statements) (slice_get ps k)) []

place-first : (n point : ℕ) (p : Procedure) (ps : List Procedure) → point < size_of p
    → place_among n (p ∷ ps) point ≡ record { procedure = n; place = point }
place-first n point p ps below =
    let here : nat_lt point (size_of p) ≡ true = grind arith in
    rw here refl

place-later : (n point : ℕ) (p : Procedure) (ps : List Procedure) → size_of p ≤ point
    → place_among n (p ∷ ps) point ≡ place_among (suc n) ps (point - size_of p)
place-later n point p ps above =
    let here : nat_lt point (size_of p) ≡ false = grind arith in
    rw here refl

pub at_place : (n k : ℕ) (ps : List Procedure) (place : ℕ) → k < length ps → place ≤ length (statements_among ps k)
    → (place_among n ps (sum_by size_of (take k ps) + place) ≡ record { procedure = n + k; place = place })
    × (sum_by size_of (take k ps) + place < sum_by size_of ps)
at_place n zero [] place below within = absurd (omega arith)
at_place n (suc k) [] place below within = absurd (omega arith)
at_place n zero (p ∷ ps) place below within =
    let inside : 0 + place < size_of p = omega arith in
    let first : place_among n (p ∷ ps) (0 + place) ≡ record { procedure = n; place = 0 + place } = place-first n (0 + place) p ps inside in
    let total : sum_by size_of (p ∷ ps) ≡ size_of p + sum_by size_of ps = sum_by-cons size_of p ps in
    (first ∙ ap₂ (λ a b. record { procedure = a; place = b }) (omega arith) (omega arith), omega arith)
at_place n (suc k) (p ∷ ps) place below within =
    let (rest, inside) = at_place (suc n) k ps place (omega arith) within in
    let front : sum_by size_of (p ∷ take k ps) ≡ size_of p + sum_by size_of (take k ps) = sum_by-cons size_of p (take k ps) in
    let total : sum_by size_of (p ∷ ps) ≡ size_of p + sum_by size_of ps = sum_by-cons size_of p ps in
    let later = place-later n (sum_by size_of (p ∷ take k ps) + place) p ps (omega arith) in
    let less : sum_by size_of (p ∷ take k ps) + place - size_of p ≡ sum_by size_of (take k ps) + place = omega arith in
    (later ∙ ap (place_among (suc n) ps) less ∙ rest ∙ ap (λ a. record { procedure = a; place = place }) (omega arith), omega arith)

-- the place of a point among some procedures
pub record IsPlaceAmong (n : ℕ) (ps : List Procedure) (point : ℕ) (at : Place) (k : ℕ) : Type 0 where
  pub procedure : at.procedure ≡ n + k
  pub within : k < length ps
  pub place : at.place ≤ length (statements_among ps k)
  pub back : sum_by size_of (take k ps) + at.place ≡ point

pub place_is_among : (n : ℕ) (ps : List Procedure) (point : ℕ) → point < sum_by size_of ps
    → (k : ℕ) × IsPlaceAmong n ps point (place_among n ps point) k
place_is_among n [] point below = absurd (omega arith)
place_is_among n (p ∷ ps) point below = by_test (nat_lt point (size_of p)) refl (place_is_among (suc n) ps (point - size_of p))
  where
    by_test : (b : Bool) → nat_lt point (size_of p) ≡ b
        → (point - size_of p < sum_by size_of ps
        → (k : ℕ) × IsPlaceAmong (suc n) ps (point - size_of p) (place_among (suc n) ps (point - size_of p)) k)
        → (k : ℕ)
        × IsPlaceAmong n (p ∷ ps) point (if b then record { procedure = n; place = point } else place_among (suc n) ps (point - size_of p)) k
    by_test true test rest =
        let inside : point < size_of p = grind arith in
        (0, record { procedure = omega arith; within = omega arith; place = omega arith; back = omega arith })
    by_test false test rest =
        let above : size_of p ≤ point = grind arith in
        let total : sum_by size_of (p ∷ ps) ≡ size_of p + sum_by size_of ps = sum_by-cons size_of p ps in
        let (k, is) = rest (omega arith) in
        let front : sum_by size_of (p ∷ take k ps) ≡ size_of p + sum_by size_of (take k ps) = sum_by-cons size_of p (take k ps) in (
          suc k,
          record { procedure = omega (arith, is.procedure); within = omega (arith, is.within); place = is.place; back = omega (arith, is.back) },
        )

pub places_have_points : PlacesHavePoints
places_have_points program procedure place below within =
    let (is, inside) = at_place 0 procedure program.procedures place below within in
    (inside, is ∙ ap (λ a. record { procedure = a; place = place }) (omega arith))

pub points_have_places : PointsHavePlaces
points_have_places program point below =
    let (k, is) = place_is_among 0 program.procedures point below in
    let same : (place_of program point).procedure ≡ k = omega (arith, is.procedure) in
    subst
    (λ (p : ℕ). (p < length program.procedures) × ((place_of program point).place ≤ end_place program p)
    × (point_of program p (place_of program point).place ≡ point) → IsPlaceOf program point)
    same
    (λ all. record { procedure = all.0; place = all.1; back = all.2 })
    (is.within, is.place, is.back)
