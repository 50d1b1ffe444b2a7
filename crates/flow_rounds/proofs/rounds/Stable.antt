-- A round that changes nothing leaves each point as it is computed, and points that are not in its order as they were
use Rattle.std.proofs.Common.{◌≡◌, ℕ, zero, suc, Bool, true, false, List, [], ◌∷◌, refl, sym, ap, subst, ◌∙◌, if◌then◌else◌, nat_eq, Contains}
use Rattle.std.proofs.Common.{inl, inr, eq-eqb, eqb-true}
use Rattle.flow_graph.proofs.lists.Membership.{Contains-cons, Contains-first, Contains-later, Contains-nil}
use Rattle.flow_rounds.specs.Rounds.{BitProblem, after_round, after_rounds, at_first, joined, with_point}
use Rattle.flow_rounds.specs.Steps.{AreApart}

module _ (problem : BitProblem) where
  at_point : (set : ℕ → Bool) (point : ℕ) → with_point problem set point point ≡ joined problem set point
  at_point set point = ap (λ b. if b then joined problem set point else set point) (eq-eqb point point refl)

  at_other : (set : ℕ → Bool) (point other : ℕ) → ¬ (other ≡ point) → with_point problem set point other ≡ set other
  at_other set point other differs = by_test (nat_eq other point) refl
    where
      by_test : (b : Bool) → nat_eq other point ≡ b → (if nat_eq other point then joined problem set point else set other) ≡ set other
      by_test true is = absurd (differs (eqb-true other point is))
      by_test false is = ap (λ b. if b then joined problem set point else set other) is

  -- points that are not in the order
  pub round_leaves : (order : List ℕ) (set : ℕ → Bool) (other : ℕ) → ¬ (Contains order other) → after_round problem order set other ≡ set other
  round_leaves [] set other none = refl
  round_leaves (point ∷ order) set other none =
      round_leaves order (with_point problem set point) other (λ among. none (Contains-later point order other among))
      ∙ at_other set point other (λ same. none (subst (Contains (point ∷ order)) (sym same) (Contains-first point order)))

  pub rounds_leave : (procedure : ℕ) (order : List ℕ) (rounds other : ℕ) → ¬ (Contains order other)
      → after_rounds problem procedure order rounds other ≡ at_first problem procedure other
  rounds_leave procedure order zero other none = refl
  rounds_leave procedure order (suc rounds) other none =
      round_leaves order (after_rounds problem procedure order rounds) other none ∙ rounds_leave procedure order rounds other none

  -- a point that is computed to what it had changes nothing
  same_set : (set : ℕ → Bool) (point : ℕ) → joined problem set point ≡ set point → with_point problem set point ≡ set
  same_set set point same = λ i other. each other i
    where
      each : (other : ℕ) → with_point problem set point other ≡ set other
      each other = by_test (nat_eq other point) refl
        where
          by_test : (b : Bool) → nat_eq other point ≡ b → (if nat_eq other point then joined problem set point else set other) ≡ set other
          by_test true is = ap (λ b. if b then joined problem set point else set other) is ∙ same ∙ ap set (sym (eqb-true other point is))
          by_test false is = ap (λ b. if b then joined problem set point else set other) is

  pub round_stable : (order : List ℕ) (set : ℕ → Bool) → AreApart order
      → ((point : ℕ) → Contains order point → after_round problem order set point ≡ set point)
      → (point : ℕ) → Contains order point → joined problem set point ≡ set point
  round_stable [] set once still point among = absurd (Contains-nil point among)
  round_stable (first ∷ order) set once still point among =
      elim (Contains-cons first order point among) [
        | inl same ↦ subst (λ p. joined problem set p ≡ set p) (sym same) here
        | inr later ↦ round_stable order set once.1
            (λ p at. ap (λ s. after_round problem order s p) (sym unchanged) ∙ still p (Contains-later first order p at)) point later
      ]
    where
      here : joined problem set first ≡ set first
      here =
          sym (at_point set first) ∙ sym (round_leaves order (with_point problem set first) first once.0)
          ∙ still first (Contains-first first order)

      unchanged : with_point problem set first ≡ set
      unchanged = same_set set first here
