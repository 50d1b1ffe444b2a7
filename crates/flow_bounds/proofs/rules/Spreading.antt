-- What one rule adds
use Rattle.std.proofs.Common.{◌≡◌, ◌⊎◌, ◌&&◌, ◌||◌, ℕ, Bool, true, false, List, length, get_or, nat_eq, inl, inr, refl, sym, ap, subst, ◌∙◌, eqb-true}
use Rattle.std.proofs.lemmas.Bool.{or_cases, or_left, eq-eqb}
use Rattle.std.proofs.Math.Bool.{or-true}
use Rattle.bit_rows.specs.Words.{has_bit}
use Rattle.flow_bounds.specs.Rules.{HasBit, IsClosedUnder, IsRuleAt, Follows, follows_by}
use Rattle.flow_bounds.specs.code.Rounds.{AreWithin, Grow}
use Rattle.flow_bounds.specs.declared.rule.Rule.{Rule}

pub both : (a b : Bool) → (a && b) ≡ true → (a ≡ true) × (b ≡ true)
both true b is = (refl, is)
both false b is = absurd (cc is)

pub and_true : (a b : Bool) → a ≡ true → b ≡ true → (a && b) ≡ true
and_true true b one other = other
and_true false b one other = one

-- words to which bits are added at one cell
abbrev pub AreAdded : List ℕ → ℕ → ℕ → List ℕ → Type 0
AreAdded old at more new = (x k : ℕ) → has_bit (get_or new x 0) k ≡ (has_bit (get_or old x 0) k || (nat_eq x at && has_bit more k))

pub grown : (old : List ℕ) (at more : ℕ) (new : List ℕ) → length new ≡ length old → AreAdded old at more new → Grow old new
grown old at more new many added = record {
  count = many;
  bits = λ x k had. added x k ∙ or_left (has_bit (get_or old x 0) k) (nat_eq x at && has_bit more k) had;
}

here : (old : List ℕ) (at more : ℕ) (new : List ℕ) → AreAdded old at more new → (k : ℕ) → has_bit more k ≡ true → HasBit new at k
here old at more new added k is =
    added at k ∙ ap (λ b. has_bit (get_or old at 0) k || b) (and_true (nat_eq at at) (has_bit more k) (eq-eqb at at refl) is)
    ∙ or-true (has_bit (get_or old at 0) k)

-- a bit was there, or was added at the cell
found : (old : List ℕ) (at more : ℕ) (new : List ℕ) → AreAdded old at more new → (x k : ℕ) → HasBit new x k
    → HasBit old x k ⊎ ((at ≡ x) × (has_bit more k ≡ true))
found old at more new added x k has =
    elim (or_cases (has_bit (get_or old x 0) k) (nat_eq x at && has_bit more k) (sym (added x k) ∙ has)) [
      | inl was ↦ inl was
      | inr new ↦ let two = both (nat_eq x at) (has_bit more k) new in inr (sym (eqb-true x at two.0), two.1)
    ]

module _ (rule : Rule) (old new : List ℕ) (pair more : ℕ)
    (pair_is : (k : ℕ) → has_bit pair k ≡ (has_bit (get_or old rule.first 0) k && has_bit (get_or old rule.second 0) k))
    (more_is : (k : ℕ) → has_bit more k ≡ (has_bit pair k && has_bit rule.mask k))
    (added : AreAdded old rule.to more new) where
  -- what was within stays within
  pub spread_within : (rules : List Rule) (i : ℕ) (given : List ℕ) → IsRuleAt rules i rule → AreWithin rules given old → AreWithin rules given new
  spread_within rules i given there within = record {
    follows = λ x k has. elim (found old rule.to more new added x k has) [
      | inl was ↦ within.follows x k was
      | inr new ↦
          let two = both (has_bit pair k) (has_bit rule.mask k) (sym (more_is k) ∙ new.1) in
          let cells = both (has_bit (get_or old rule.first 0) k) (has_bit (get_or old rule.second 0) k) (sym (pair_is k) ∙ two.0) in
          subst (λ n. Follows rules given n k) new.0
          (follows_by i rule k there (within.follows rule.first k cells.0) (within.follows rule.second k cells.1) two.1)
    ];
  }

  -- where nothing was new the words are closed under the rule
  pub spread_closed : new ≡ old → IsClosedUnder new rule
  spread_closed same k first second is =
      here old rule.to more new added k
      (more_is k ∙ and_true (has_bit pair k) (has_bit rule.mask k)
      (pair_is k ∙ and_true (has_bit (get_or old rule.first 0) k) (has_bit (get_or old rule.second 0) k)
      (subst (λ (words : List ℕ). HasBit words rule.first k) same first)
      (subst (λ (words : List ℕ). HasBit words rule.second k) same second)) is)
