use Rattle.std.proofs.Common.{◌≡◌, ◌+◌, ◌||◌, ℕ, Bool, true, false, List, Some, get_or, inl, inr, refl, sym, subst, ◌∙◌, arith}
use Rattle.std.proofs.lemmas.Bool.{cases_lt}
use Rattle.std.proofs.lemmas.Option.{slice_get-get_or}
use Rattle.flow_bounds.specs.Rules.{IsClosedUnder, IsRuleAt}
use Rattle.flow_bounds.specs.code.Rounds.{AreClosedTo, Grow}
use Rattle.flow_bounds.specs.declared.rule.Rule.{Rule}
use Rattle.flow_bounds.proofs.rounds.round.Goals as goal

-- neither of two tests holds
neither : (a b : Bool) → (a || b) ≡ false → (a ≡ false) × (b ≡ false)
neither true b is = absurd (cc is)
neither false b is = (refl, is)

-- the words are closed under one rule more
closed_more : (words : List ℕ) (rules : List Rule) (n : ℕ) (rule : Rule) → AreClosedTo words rules n → IsRuleAt rules n rule → IsClosedUnder words rule
    → AreClosedTo words rules (n + 1)
closed_more words rules n rule closed there here i other low at = elim (cases_lt i n) [
  | inl before ↦ closed i other before at
  | inr past ↦
      let same : n ≡ i = omega (arith, low, past) in
      let both : Some rule ≡ Some other = sym there ∙ subst (λ k. IsRuleAt rules k other) (sym same) at in
      let one : rule ≡ other = cc both in
      subst (λ e. IsClosedUnder words e) one here
]

grow_more : (old between new : List ℕ) → Grow old between → Grow between new → Grow old new
grow_more old between new one other = record { count = other.count ∙ one.count; bits = λ x k had. other.bits x k (one.bits x k had) }

pub loop-rule-preserved : goal.loop-rule-preserved
loop-rule-preserved c =
    let n : ℕ = c.loop-rule.rule-index in
    let rules : List Rule = c.args.rules.now in
    let blank : Rule = record { to = 0; first = 0; second = 0; mask = 0 } in
    let rule : Rule = get_or rules n blank in
    let there : IsRuleAt rules n rule = slice_get-get_or rules n blank c.loop-rule-test.true in
    let before = c.loop-rule.invariant in
    let step = c.spread-changed.ensures in
    record {
      grow = grow_more _ _ _ before.grow step.grow;
      within = λ given begun. step.within rules n given there (before.within given begun);
      closed = λ same.
          let two = neither c.spread-changed.result c.loop-rule.changed same in
          closed_more c.spread-changed.new.words rules n rule
          (subst (λ (w : List ℕ). AreClosedTo w rules n) (sym (step.same two.0)) (before.closed two.1))
          there (step.closed two.0);
    }
