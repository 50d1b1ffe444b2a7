-- How an order is made: point by point, those that are computed and do not stand in it.
use Rattle.std.specs.Prelude.{◌≡◌, ℕ, ◌-◌, ◌<◌, Bool, true, false, not, ◌&&◌, List, [], ◌∷◌, ◌++◌, nat_eq, nat_le, nat_lt, slice_index_or}
use Rattle.std.specs.Prelude.{Contains, if◌then◌else◌}
use Rattle.std.specs.List.{list_any}
use Rattle.flow_rounds.specs.Steps.{AreApart}
use Rattle.flow_rounds.specs.declared.point_range.PointRange.{PointRange}

-- whether a point is one of these that are computed
abbrev pub is_taken : PointRange → List Bool → ℕ → Bool
is_taken points computed point =
    nat_le points.first point && (nat_lt point points.end && slice_index_or computed (point - points.first) false)

-- an order with one point more, where it is computed and does not stand there
abbrev pub with_point : PointRange → List Bool → List ℕ → ℕ → List ℕ
with_point points computed order point =
    if is_taken points computed point && not (list_any (λ other. nat_eq other point) order) then order ++ point ∷ [] else order

-- An order has points that are computed, each once, and all of these before one.
pub record ArePut (points : PointRange) (computed : List Bool) (until : ℕ) (order : List ℕ) : Type 0 where
  pub taken : (point : ℕ) → Contains order point → is_taken points computed point ≡ true
  pub once : AreApart order
  pub all : (point : ℕ) → point < until → is_taken points computed point ≡ true → Contains order point
