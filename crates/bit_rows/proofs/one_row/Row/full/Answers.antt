use Rattle.std.proofs.Common.{◌≡◌, ◌-◌, ◌^◌, true, length, get_or, replicate, ap, ◌∙◌, arith, rules}
use Rattle.std.specs.List.{refill}
use Rattle.std.proofs.lemmas.List.{get_or-replicate, length-replicate}
use Rattle.bit_rows.specs.RowSet.{full_set}
use Rattle.bit_rows.specs.Words.{has_bit, word_count}
use Rattle.bit_rows.proofs.words.WordBits.{has_bit-max}
use Rattle.bit_rows.proofs.rows.WordRows.{HoldSet, HoldSet-refill, HoldSet-trimmed}
use Rattle.bit_rows.proofs.one_row.Row.full.Goals as goal

ones : (c : goal.After-words-3-1) → c.as_mut_slice.result.now ≡ replicate (word_count c.args.lo c.args.hi) (2 ^ 64 - 1)
ones c =
    c.as_mut_slice.ensures.value
    ∙ c.in_ok-words.ensures.items_if_clones_equal (λ y h. search rules)
    ∙ ap (λ n. replicate n (2 ^ 64 - 1)) c.words_needed.ensures

held : (c : goal.After-words-3-1) → HoldSet (full_set c.args.lo c.args.hi) c.args.lo c.args.hi
    (refill (length c.in_ok-words.words.items) c.in_ok-words.words.items c.trim.new.words)
unfolding full_set
held c =
    let n = word_count c.args.lo c.args.hi in
    let count = c.trim.auto.words ∙ ap length (ones c) ∙ length-replicate n (2 ^ 64 - 1) in
    HoldSet-refill c.in_ok-words.words.items c.trim.new.words
    (HoldSet-trimmed c.args.lo c.args.hi c.as_mut_slice.result.now c.trim.new.words (λ _. true) c.requires count c.trim.ensures
    (λ k i present within.
    ap (λ xs. has_bit (get_or xs k 0) i) (ones c)
    ∙ ap (λ word. has_bit word i) (get_or-replicate n k (2 ^ 64 - 1) 0 (omega (arith, present, count)))
    ∙ has_bit-max i within))
    (c.trim.auto.words ∙ ap length c.as_mut_slice.ensures.value)

pub invariant_of-result : goal.invariant_of-result
invariant_of-result c = (held c).well_formed

pub returns-clause-value : goal.returns-clause-value
returns-clause-value c = (held c).held
