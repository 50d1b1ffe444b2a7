-- The rounds of an intersection are those of the complemented union, complemented
use Rattle.std.proofs.Common.{◌≡◌, ℕ, zero, suc, Bool, true, false, not, ◌&&◌, ◌||◌, List, [], ◌∷◌, refl, sym, ap, ◌∙◌, if◌then◌else◌, nat_eq}
use Rattle.std.specs.List.{list_all, list_any}
use Rattle.flow_graph.specs.Reversals.{complemented_transfer}
use Rattle.flow_graph.specs.declared.edge.Edge.{Edge}
use Rattle.flow_graph.specs.declared.edge.Edge.TheVariants.{Step, Call, Ret}
use Rattle.flow_rounds.specs.Rounds.{BitProblem, after_round, after_rounds, at_first, bit_behind, is_computed, is_step_to, joined, with_point}

-- the complemented union
abbrev pub complement : BitProblem → BitProblem
complement problem = record {
  shape = problem.shape;
  transfer = complemented_transfer problem.transfer;
  is_must = false;
  has_path = problem.has_path;
  in_table = λ point. not (problem.in_table point);
}

abbrev pub negated : (ℕ → Bool) → ℕ → Bool
negated set point = not (set point)

flip_value : (gen kill value : Bool) → (gen || (not value && not kill)) ≡ not ((kill && not gen) || (value && not gen))
flip_value true true true = refl
flip_value true true false = refl
flip_value true false true = refl
flip_value true false false = refl
flip_value false true true = refl
flip_value false true false = refl
flip_value false false true = refl
flip_value false false false = refl

flip_either : (a b : Bool) → (not a || not b) ≡ not (a && b)
flip_either true b = refl
flip_either false b = refl

flip_both : (a b : Bool) → (not a && not b) ≡ not (a || b)
flip_both true b = refl
flip_both false b = refl

flip_all : (f g : Edge → Bool) (edges : List Edge) → ((edge : Edge) → f edge ≡ not (g edge)) → list_all f edges ≡ not (list_any g edges)
flip_all f g [] each = refl
flip_all f g (edge ∷ edges) each = (λ i. each edge i && flip_all f g edges each i) ∙ flip_both (g edge) (list_any g edges)

pub twice : (b : Bool) → not (not b) ≡ b
twice true = refl
twice false = refl

module _ (problem : BitProblem) (must : problem.is_must ≡ true) where
  each_edge : (set : ℕ → Bool) (point : ℕ) (edge : Edge)
      → (not (is_step_to problem.has_path point edge) || bit_behind problem.transfer (negated set) edge)
      ≡ not (is_step_to problem.has_path point edge && bit_behind (complemented_transfer problem.transfer) set edge)
  each_edge set point (Step source target) =
      ap (λ b. not (nat_eq target point && problem.has_path source) || b)
      (flip_value (problem.transfer.gen source target) (problem.transfer.kill source target) (set source))
      ∙ flip_either (nat_eq target point && problem.has_path source)
      (bit_behind (complemented_transfer problem.transfer) set (Step source target))
  each_edge set point (Call site source target) = refl
  each_edge set point (Ret site source target) = refl

  flip_joined : (set : ℕ → Bool) (point : ℕ) → joined problem (negated set) point ≡ not (joined (complement problem) set point)
  flip_joined set point =
      ap (λ (b : Bool). if b
      then list_all (λ edge. not (is_step_to problem.has_path point edge) || bit_behind problem.transfer (negated set) edge) problem.shape.edges
      else list_any (λ edge. is_step_to problem.has_path point edge && bit_behind problem.transfer (negated set) edge) problem.shape.edges) must
      ∙ flip_all (λ edge. not (is_step_to problem.has_path point edge) || bit_behind problem.transfer (negated set) edge)
      (λ edge. is_step_to problem.has_path point edge && bit_behind (complemented_transfer problem.transfer) set edge)
      problem.shape.edges (each_edge set point)

  flip_point : (set : ℕ → Bool) (point : ℕ) → with_point problem (negated set) point ≡ negated (with_point (complement problem) set point)
  flip_point set point = λ i other. each other i
    where
      each : (other : ℕ) → with_point problem (negated set) point other ≡ not (with_point (complement problem) set point other)
      each other = by_test (nat_eq other point)
        where
          by_test : (b : Bool) → (if b then joined problem (negated set) point else not (set other))
              ≡ not (if b then joined (complement problem) set point else set other)
          by_test true = flip_joined set point
          by_test false = refl

  flip_round : (order : List ℕ) (set : ℕ → Bool) → after_round problem order (negated set) ≡ negated (after_round (complement problem) order set)
  flip_round [] set = refl
  flip_round (point ∷ order) set =
      ap (after_round problem order) (flip_point set point) ∙ flip_round order (with_point (complement problem) set point)

  flip_first : (procedure : ℕ) → at_first problem procedure ≡ negated (at_first (complement problem) procedure)
  flip_first procedure = λ i point. each point i
    where
      each : (point : ℕ) → at_first problem procedure point ≡ not (at_first (complement problem) procedure point)
      each point = by_test (is_computed problem.shape procedure problem.has_path point)
        where
          by_test : (b : Bool) → (if b then problem.is_must else problem.in_table point) ≡ not (if b then false else not (problem.in_table point))
          by_test true = must
          by_test false = sym (twice (problem.in_table point))

  pub flip_rounds : (procedure : ℕ) (order : List ℕ) (rounds : ℕ)
      → after_rounds problem procedure order rounds ≡ negated (after_rounds (complement problem) procedure order rounds)
  flip_rounds procedure order zero = flip_first procedure
  flip_rounds procedure order (suc rounds) =
      ap (after_round problem order) (flip_rounds procedure order rounds)
      ∙ flip_round order (after_rounds (complement problem) procedure order rounds)
