use Rattle.std.proofs.Common.{◌∙◌, ℕ, List, length, slice_index, sym, ap, subst}
use Rattle.bit_rows.specs.Words.{has_bit}
use Rattle.bit_rows.proofs.words.WordBits.{has_bit-zero}
use Rattle.gk_solve.proofs.slices.Slices.{written_over}
use Rattle.flow_bounds.specs.code.Exact.{IsHungWord}
use Rattle.flow_bounds.proofs.way_words.hung_words.Goals as goal

pub put_branches-requires-clause-before : goal.put_branches-requires-clause-before
put_branches-requires-clause-before c p transfer bit small exact has =
    absurd (cc (sym (ap (λ (l : List ℕ). has_bit (slice_index l p) bit) c.as_mut_slice.ensures.value
    ∙ (ap (λ w. has_bit w bit) (c.in_ok-hung.ensures.each p) ∙ has_bit-zero bit)) ∙ has))

pub returns-clause-each : goal.returns-clause-each
returns-clause-each c p =
    subst (λ (l : List ℕ). IsHungWord c.args.frame.now p (slice_index l p))
    (sym (written_over c.in_ok-hung.hung.len c.put_branches.new.hung c.in_ok-hung.hung.items c.in_ok-hung.hung.ok.0
    (c.put_branches.ensures.count ∙ ap length c.as_mut_slice.ensures.value))) (c.put_branches.ensures.each p)
