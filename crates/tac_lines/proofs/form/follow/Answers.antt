use Rattle.std.proofs.Common.{◌∙◌, sym, arith, length, ◌≤◌, List, ℕ}
use Rattle.tac_lines.proofs.forms.Walks.{goes_on, goes_wrong, no_slots, no_tokens}
use Rattle.tac_lines.proofs.form.follow.Goals as goal
use Rattle.tac_lines.proofs.form.follow.Goals.{then-loop-at-test+else-at-tokens, else-loop-at-test}

pub returns-then-not-fits-clause-whole : goal.returns-then-not-fits-clause-whole
returns-then-not-fits-clause-whole c text =
    sym (c.loop-at.invariant.whole text) ∙ (goes_wrong text c.args.slots.now c.args.tokens.now c.loop-at.at _ _ c.loop-at-test.true
    c.if-at-tokens.true (c.fits.ensures _ ∙ c.if-not-fits.true)).1

pub loop-at-preserved : goal.loop-at-preserved
loop-at-preserved c =
    let step = λ (text : List ℕ). goes_on text c.args.slots.now c.args.tokens.now c.loop-at.at _ _ c.loop-at-test.true c.if-at-tokens.true
    (c.fits.ensures _ ∙ c.if-not-fits.false) in
    record {
      slots = omega (arith, c.loop-at-test.true);
      tokens = omega (arith, c.if-at-tokens.true);
      wrong = λ text. (step text).0 ∙ c.loop-at.invariant.wrong text;
      whole = λ text. (step text).1 ∙ c.loop-at.invariant.whole text;
    }

pub returns-then-at-tokens-2-clause-whole : goal.returns-then-at-tokens-2-clause-whole
returns-then-at-tokens-2-clause-whole c text =
    let short : length c.args.slots.now ≤ c.loop-at.at = elim c.loop-at-test.branch [
      | then-loop-at-test+else-at-tokens w ↦ omega (arith, w.if-at-tokens.false, c.if-at-tokens-2.true)
      | else-loop-at-test w ↦ omega (arith, w.loop-at-test.false)
    ] in
    sym (c.loop-at.invariant.whole text) ∙ no_slots text c.args.slots.now c.args.tokens.now c.loop-at.at short c.if-at-tokens-2.true

pub returns-then-at-slots-clause-whole : goal.returns-then-at-slots-clause-whole
returns-then-at-slots-clause-whole c text =
    let few : length c.args.tokens.now ≤ c.loop-at.at = omega (arith, c.if-at-tokens-2.false) in
    sym (c.loop-at.invariant.whole text) ∙ no_tokens text c.args.slots.now c.args.tokens.now c.loop-at.at few c.if-at-slots.true
