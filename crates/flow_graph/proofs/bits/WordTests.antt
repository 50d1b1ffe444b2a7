-- The words of a set and its bits
use Rattle.std.proofs.Common.{◌≡◌, ◌*◌, ◌+◌, ◌/◌, ◌%◌, ◌<◌, true, ◌&&◌, nat_lt, sym, ap, ◌∙◌, arith}
use Rattle.bit_rows.proofs.words.WordBits.{same_words}
use Rattle.flow_graph.specs.ProgramLaws.{WordsTellBits, WordsAreTheirBits}

pub words_tell_bits : WordsTellBits
words_tell_bits test bits bit value below is =
    let place : bit % 64 < 64 = omega arith in
    let back : 64 * (bit / 64) + bit % 64 ≡ bit = omega arith in
    let there : nat_lt bit bits ≡ true = grind arith in
    is (bit % 64) place ∙ ap (λ n. nat_lt n bits && test n) back ∙ ap (λ t. t && test bit) there

pub words_are_their_bits : WordsAreTheirBits
words_are_their_bits test bits word value other fits other_fits is other_is =
    same_words value other fits other_fits (λ k within. is k within ∙ sym (other_is k within))
