-- Rules that are added, and the clauses that they tell
use Rattle.std.proofs.Common.{◌≡◌, ◌⊎◌, ◌<◌, ◌+◌, ℕ, List, [], ◌∷◌, ◌++◌, length, suc, zero, inl, inr, refl, sym, subst, arith}
use Rattle.std.proofs.lemmas.Bool.{cases_lt}
use Rattle.flow_bounds.specs.Rules.{IsRuleAt, IsRuleOf}
use Rattle.flow_bounds.specs.code.Frames.{Adds, BelowClause, Gives, IsOf, RuleClause}
use Rattle.flow_bounds.specs.declared.rule.Rule.{Rule}

before : (old more : List Rule) (i : ℕ) (rule : Rule) → IsRuleAt old i rule → IsRuleAt (old ++ more) i rule
before [] more i rule there = absurd (cc there)
before (one ∷ old) more zero rule there = there
before (one ∷ old) more (suc i) rule there = before old more i rule there

last : (old : List Rule) (rule : Rule) → IsRuleAt (old ++ rule ∷ []) (length old) rule
last [] rule = refl
last (one ∷ old) rule = last old rule

of_more : (old : List Rule) (rule : Rule) (i : ℕ) (one : Rule) → IsRuleAt (old ++ rule ∷ []) i one → IsRuleAt old i one ⊎ (rule ≡ one)
of_more [] rule zero one there = inr (cc there)
of_more [] rule (suc i) one there = absurd (cc there)
of_more (first ∷ old) rule zero one there = inl there
of_more (first ∷ old) rule (suc i) one there = of_more old rule i one there

-- the same fact at other cells
pub at_cells : (P : ℕ → ℕ → ℕ → Type 0) (a b c x y z : ℕ) → a ≡ x → b ≡ y → c ≡ z → P x y z → P a b c
at_cells P a b c x y z one two three is =
    subst (λ n. P n b c) (sym one) (subst (λ n. P x n c) (sym two) (subst (λ n. P x y n) (sym three) is))

module _ (n : ℕ) where
  pub gives_later : (old new : List Rule) → ((i : ℕ) (rule : Rule) → IsRuleAt old i rule → IsRuleAt new i rule)
      → (bit to first second : ℕ) → Gives old bit to first second → Gives new bit to first second
  gives_later old new kept bit to first second gives = record {
    number = gives.number;
    rule = gives.rule;
    there = kept gives.number gives.rule gives.there;
    to_is = gives.to_is;
    first_is = gives.first_is;
    second_is = gives.second_is;
    lets = gives.lets;
  }

  -- one rule
  pub adds_one : (old : List Rule) (rule : Rule) → IsRuleOf n rule → Adds n (RuleClause rule) old (old ++ rule ∷ [])
  adds_one old rule cells = record {
    kept = before old (rule ∷ []);
    only = λ i one there. elim (of_more old rule i one there) [
      | inl was ↦ inl was
      | inr same ↦ inr (subst (λ (r : Rule). IsOf n (RuleClause rule) r) same
          (record { of_cells = cells; clauses = λ bit small lets. (refl, refl, refl, lets) }))
    ];
    has = λ bit to first second small holds. record {
      number = length old;
      rule = rule;
      there = last old rule;
      to_is = holds.0;
      first_is = holds.1;
      second_is = holds.2;
      lets = holds.3;
    };
  }

  -- no rule, where there is no clause
  pub adds_nothing : (H : ℕ → ℕ → ℕ → ℕ → Type 0) (rules : List Rule) → ((bit to first second : ℕ) → H bit to first second → ⊥) → Adds n H rules rules
  adds_nothing H rules none = record {
    kept = λ i rule there. there;
    only = λ i rule there. inl there;
    has = λ bit to first second small holds. absurd (none bit to first second holds);
  }

  of_map : (H L : ℕ → ℕ → ℕ → ℕ → Type 0) → ((bit to first second : ℕ) → bit < 64 → H bit to first second → L bit to first second)
      → (rule : Rule) → IsOf n H rule → IsOf n L rule
  of_map H L map rule of = record {
    of_cells = of.of_cells;
    clauses = λ bit small lets. map bit rule.to rule.first rule.second small (of.clauses bit small lets);
  }

  -- the same rules, their clauses said otherwise
  pub adds_as : (H L : ℕ → ℕ → ℕ → ℕ → Type 0) (old new : List Rule)
      → ((bit to first second : ℕ) → bit < 64 → H bit to first second → L bit to first second)
      → ((bit to first second : ℕ) → bit < 64 → L bit to first second → H bit to first second) → Adds n H old new → Adds n L old new
  adds_as H L old new map back adds = record {
    kept = adds.kept;
    only = λ i rule there. elim (adds.only i rule there) [
      | inl was ↦ inl was
      | inr of ↦ inr (of_map H L map rule of)
    ];
    has = λ bit to first second small holds. adds.has bit to first second small (back bit to first second small holds);
  }

  -- rules behind rules
  pub adds_both : (H K L : ℕ → ℕ → ℕ → ℕ → Type 0) (old between new : List Rule)
      → ((bit to first second : ℕ) → bit < 64 → H bit to first second → L bit to first second)
      → ((bit to first second : ℕ) → bit < 64 → K bit to first second → L bit to first second)
      → ((bit to first second : ℕ) → bit < 64 → L bit to first second → H bit to first second ⊎ K bit to first second)
      → Adds n H old between → Adds n K between new → Adds n L old new
  adds_both H K L old between new one other parts first_adds then_adds = record {
    kept = λ i rule there. then_adds.kept i rule (first_adds.kept i rule there);
    only = λ i rule there. elim (then_adds.only i rule there) [
      | inl was ↦ elim (first_adds.only i rule was) [
        | inl still ↦ inl still
        | inr of ↦ inr (of_map H L one rule of)
      ]
      | inr of ↦ inr (of_map K L other rule of)
    ];
    has = λ bit to first second small holds. elim (parts bit to first second small holds) [
      | inl of ↦ gives_later between new then_adds.kept bit to first second (first_adds.has bit to first second small of)
      | inr of ↦ then_adds.has bit to first second small of
    ];
  }

  -- the rules of one number more
  pub adds_more : (H : ℕ → ℕ → ℕ → ℕ → ℕ → Type 0) (i : ℕ) (old between new : List Rule)
      → Adds n (BelowClause H i) old between → Adds n (H i) between new → Adds n (BelowClause H (i + 1)) old new
  adds_more H i old between new = adds_both (BelowClause H i) (H i) (BelowClause H (i + 1)) old between new
      (λ bit to first second small (j, low, holds). (j, omega arith, holds))
      (λ bit to first second small holds. (i, omega arith, holds))
      (λ bit to first second small (j, low, holds). elim (cases_lt j i) [
        | inl less ↦ inl (j, less, holds)
        | inr past ↦ let same : j ≡ i = omega (arith, low, past) in inr (subst (λ k. H k bit to first second) same holds)
      ])
