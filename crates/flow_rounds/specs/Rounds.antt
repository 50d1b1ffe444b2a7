-- The rounds of Kildall's iteration in one procedure, for one bit of a problem (Kildall 1973; Aho, Lam, Sethi, Ullman, 2nd edition, 9.2,
-- algorithms 9.11, 9.14 and 9.17).
--
-- What callers bring stands at the procedure's entry, and what callees leave stands at the points to which returns lead: these are known from
-- the table in every round, and so are points without a valid path. Each other point is computed once in a round, from the points before it by
-- their steps; what was computed earlier in the round is used at once.
use Rattle.std.specs.Prelude.{ℕ, zero, suc, Bool, false, not, ◌&&◌, ◌||◌, List, fold, nat_eq, if◌then◌else◌}
use Rattle.std.specs.List.{list_all, list_any}
use Rattle.flow_graph.specs.Paths.{Shape, Transfer, value_across}
use Rattle.flow_graph.specs.declared.edge.Edge.{Edge}
use Rattle.flow_graph.specs.declared.edge.Edge.TheVariants.{Step, Call, Ret}

-- A problem at one bit, in the direction in which it goes: whether sets are intersected, which points have a valid path, and which have the
-- bit in the table.
pub record BitProblem : Type 0 where
  pub shape : Shape
  pub transfer : Transfer
  pub is_must : Bool
  pub has_path : ℕ → Bool
  pub in_table : ℕ → Bool

-- whether an edge is a return that leads to the point
abbrev pub is_return_to : ℕ → Edge → Bool
is_return_to point (Step source target) = false
is_return_to point (Call site source target) = false
is_return_to point (Ret site source target) = nat_eq target point

-- Whether the point of a procedure is computed: it has a valid path, is not the procedure's entry, and no return leads to it.
abbrev pub is_computed : Shape → ℕ → (ℕ → Bool) → ℕ → Bool
is_computed shape procedure has_path point =
    has_path point && not (nat_eq point (shape.entry procedure)) && not (list_any (is_return_to point) shape.edges)

-- whether an edge is a step to the point from one that has a valid path
abbrev pub is_step_to : (ℕ → Bool) → ℕ → Edge → Bool
is_step_to has_path point (Step source target) = nat_eq target point && has_path source
is_step_to has_path point (Call site source target) = false
is_step_to has_path point (Ret site source target) = false

-- the bit behind a step: gen ∪ (X − kill), X being the set where the step begins
abbrev pub bit_behind : Transfer → (ℕ → Bool) → Edge → Bool
bit_behind transfer set (Step source target) = value_across transfer (Step source target) (set source)
bit_behind transfer set (Call site source target) = false
bit_behind transfer set (Ret site source target) = false

-- the bit at a point, from the points before it: the union of what the steps to it bring, or the intersection
abbrev pub joined : BitProblem → (ℕ → Bool) → ℕ → Bool
joined problem set point =
    if problem.is_must
    then list_all (λ edge. not (is_step_to problem.has_path point edge) || bit_behind problem.transfer set edge) problem.shape.edges
    else list_any (λ edge. is_step_to problem.has_path point edge && bit_behind problem.transfer set edge) problem.shape.edges

-- one point computed anew
abbrev pub with_point : BitProblem → (ℕ → Bool) → ℕ → ℕ → Bool
with_point problem set point = λ other. if nat_eq other point then joined problem set point else set other

-- a round: each point of an order in turn
abbrev pub after_round : BitProblem → List ℕ → (ℕ → Bool) → ℕ → Bool
after_round problem order set = fold (with_point problem) set order

-- Before the first round a point that is computed has nothing, where sets are joined by union, or everything; all others have what the table has.
abbrev pub at_first : BitProblem → ℕ → ℕ → Bool
at_first problem procedure point =
    if is_computed problem.shape procedure problem.has_path point then problem.is_must else problem.in_table point

-- after so many rounds
abbrev pub after_rounds : BitProblem → ℕ → List ℕ → ℕ → ℕ → Bool
after_rounds problem procedure order zero = at_first problem procedure
after_rounds problem procedure order (suc rounds) = after_round problem order (after_rounds problem procedure order rounds)
