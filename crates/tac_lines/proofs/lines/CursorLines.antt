-- The line of a place, from the line of one before it.
use Rattle.std.proofs.Common.{◌≡◌, ℕ, ◌+◌, ◌-◌, ◌≤◌, List, ◌++◌, cond, take, drop, count_by, sym, ap, ◌∙◌, arith}
use Rattle.std.proofs.Math.Seq.{take-add}
use Rattle.std.proofs.lemmas.List.Sums.{sum_by-append}
use Rattle.tac_lines.specs.Text.{is_line_end, line_after}

pub lines_on : (text : List ℕ) (at stop line feeds : ℕ) → at ≤ stop → line ≡ line_after (take at text)
    → feeds ≡ count_by is_line_end (take (stop - at) (drop at text)) → line + feeds ≡ line_after (take stop text)
lines_on text at stop line feeds below known fed =
    let whole : at + (stop - at) ≡ stop = omega arith in
    let parts : take stop text ≡ take at text ++ take (stop - at) (drop at text) = ap (λ n. take n text) (sym whole) ∙ take-add at (stop - at) text in
    let sum : count_by is_line_end (take stop text) ≡ count_by is_line_end (take at text) + count_by is_line_end (take (stop - at) (drop at text)) =
    ap (count_by is_line_end) parts ∙ sum_by-append (λ b. cond (is_line_end b) 1 0) (take at text) (take (stop - at) (drop at text)) in
    omega (arith, sum, known, fed)
