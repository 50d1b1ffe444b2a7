use Rattle.std.proofs.Common.{rules, ◌≡◌, ◌+◌, ◌++◌, ◌∷◌, [], Bool, true, false, List, ℕ, Vec, Global, get_or, sym, ap, subst, ◌∙◌}
use Rattle.gen_kill.specs.Selections.{AreMarked}
use Rattle.gen_kill.proofs.bits.Marked.{marked_more, none_marked, unmarked_more}
use Rattle.gen_kill.proofs.marks.marked_numbers.Goals as goal
use Rattle.gen_kill.proofs.marks.marked_numbers.Goals.{then-marks-number+in_ok-push, else-marks-number}

pub loop-number-init : goal.loop-number-init
loop-number-init c = subst (λ (xs : List ℕ). AreMarked c.args.marks.now 0 xs) (sym c.new-numbers.ensures.items) (none_marked c.args.marks.now)

pub loop-number-preserved : goal.loop-number-preserved
loop-number-preserved c =
    let marks : List Bool = c.args.marks.now in
    let n : ℕ = c.loop-number.number in
    let old : List ℕ = c.loop-number.numbers.items in
    elim c.if-marks-number.branch [
      | then-marks-number+in_ok-push w ↦
          let is : get_or marks n false ≡ true = search rules in
          let more : old ++ n ∷ [] ≡ c.if-marks-number.numbers.items =
          sym (ap (λ (v : Vec ℕ Global). v.items) w.numbers-is ∙ w.in_ok-push.ensures.items) in
          subst (λ (xs : List ℕ). AreMarked marks (n + 1) xs) more (marked_more old n marks c.loop-number.invariant is)
      | else-marks-number w ↦
          let is : get_or marks n false ≡ false = search rules in
          subst (λ (xs : List ℕ). AreMarked marks (n + 1) xs) (sym (ap (λ (v : Vec ℕ Global). v.items) w.numbers-is))
          (unmarked_more old n marks c.loop-number.invariant is)
    ]
