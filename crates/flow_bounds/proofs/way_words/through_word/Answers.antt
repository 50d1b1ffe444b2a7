use Rattle.std.proofs.Common.{◌≡◌, ◌<◌, ◌∙◌, ℕ, List, true, length, slice_index, ap, sym, subst, arith}
use Rattle.bit_rows.specs.Words.{has_bit}
use Rattle.bit_rows.proofs.words.WordBits.{has_bit-zero}
use Rattle.summary_equations.specs.Equations.{Preserved}
use Rattle.flow_bounds.specs.Clauses.{shape_in}
use Rattle.flow_bounds.proofs.way_words.through_word.Goals as goal

pub returns-then-way-ways : goal.returns-then-way-ways
returns-then-way-ways c transfer bit small exact has = absurd (cc (sym (has_bit-zero bit) ∙ has))

pub returns : goal.returns
returns c transfer bit small exact has =
    let way = c.number_at-way.result in
    let low : way < length c.args.ways.now = omega (arith, c.if-way-ways.false) in
    let told = c.requires.words.each way low transfer bit small exact in
    let word : c.word_at.result ≡ slice_index c.args.words.now.kept.items way =
    c.word_at.ensures ∙ ap (λ (l : List ℕ). slice_index l way) c.as_slice.ensures.value in
    subst (Preserved (shape_in c.args.frame.now) transfer.kill) (sym c.point_at.ensures ∙ (c.if-point_at-exit.false ∙ c.exit-exit.ensures))
    (told.preserved (subst (λ w. has_bit w bit ≡ true) word has))
