use Rattle.std.proofs.Common.{◌≡◌, ℕ, suc, ◌+◌, ◌-◌, List, ◌∷◌, get_or, drop, length, sym, ap, ◌∙◌, arith}
use Rattle.std.proofs.Math.Seq.{drop-cons}
use Rattle.std.proofs.lemmas.Bool.{eq-eqb, ne_eqb}
use Rattle.std.proofs.lemmas.List.{drop_all}
use Rattle.lint_styles.specs.Styles.{behind_lines as behind}
use Rattle.lint_styles.proofs.Behind.{behind_byte, behind_end, behind_none}
use Rattle.lint_styles.proofs.lines.behind_lines.Goals as goal
use Rattle.lint_styles.proofs.lines.behind_lines.Goals.{then-byte-eq10, else-byte-eq10}

pub loop-i-preserved : goal.loop-i-preserved
loop-i-preserved c =
    let text : List ℕ = c.args.text.now in
    let i : ℕ = c.loop-i.i in
    let left : ℕ = c.loop-i.left in
    let here : drop i text ≡ get_or text i 0 ∷ drop (suc i) text = drop-cons text i 0 c.loop-i-test.true in
    let some : left ≡ suc (left - 1) = omega (arith, c.if-left-eq0.false) in
    let next : suc i ≡ i + 1 = omega arith in
    elim c.if-byte-eq10.branch [
      | then-byte-eq10 w ↦
          ap (λ n. behind n (drop (i + 1) text)) w.left-is
          ∙ ap (λ k. behind (left - 1) (drop k text)) (sym next)
          ∙ sym (behind_end left (left - 1) (get_or text i 0) (drop (suc i) text) some (eq-eqb _ _ w.if-byte-eq10.true))
          ∙ ap (behind left) (sym here) ∙ c.loop-i.invariant
      | else-byte-eq10 w ↦
          ap (λ n. behind n (drop (i + 1) text)) (w.left-is ∙ some)
          ∙ ap (λ k. behind (suc (left - 1)) (drop k text)) (sym next)
          ∙ sym (behind_byte left (left - 1) (get_or text i 0) (drop (suc i) text) some (ne_eqb _ _ w.if-byte-eq10.false))
          ∙ ap (behind left) (sym here) ∙ c.loop-i.invariant
    ]

pub returns : goal.returns
returns c =
    sym (ap (behind c.loop-i.left) (drop_all c.loop-i.i c.args.text.now (omega (arith, c.loop-i-test.false))) ∙ behind_none c.loop-i.left)
    ∙ c.loop-i.invariant
