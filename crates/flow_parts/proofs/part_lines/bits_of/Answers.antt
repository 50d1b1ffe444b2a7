use Rattle.std.proofs.Common.{◌≡◌, ◌∙◌, ◌*◌, ◌-◌, ◌/◌, ◌&&◌, ℕ, length, nat_le, nat_lt, ap, ap₂}
use Rattle.flow_graph.specs.Universes.{bits}
use Rattle.flow_graph.specs.declared.analysis.Analysis.TheVariants.{Avail}
use Rattle.tac_program.specs.Programs.{Program}
use Rattle.report_answers.specs.code.Chosen.{is_within}
use Rattle.report_answers.specs.declared.chosen_bits.WordRange.{WordRange}
use Rattle.flow_parts.specs.Cuts.{cut_end, groups_of, is_in_cut}
use Rattle.flow_parts.proofs.Words.{by_words}
use Rattle.flow_parts.proofs.part_lines.bits_of.Goals as goal

-- the words of a part have its bits
in_words : (count part counted all : ℕ) (range : WordRange) → counted ≡ all → range.first ≡ 8 * cut_end (groups_of counted) count (part - 1)
    → range.end ≡ 8 * cut_end (groups_of counted) count part → (bit : ℕ) → is_within range (bit / 64) ≡ is_in_cut all count part bit
in_words count part counted all range same first end bit =
    ap₂ (λ (a b : ℕ). nat_le a (bit / 64) && nat_lt (bit / 64) b)
    (first ∙ ap (λ (n : ℕ). 8 * cut_end (groups_of n) count (part - 1)) same)
    (end ∙ ap (λ (n : ℕ). 8 * cut_end (groups_of n) count part) same)
    ∙ by_words (cut_end (groups_of all) count (part - 1)) (cut_end (groups_of all) count part) bit

pub returns : goal.returns
returns c =
    let program : Program = c.args.graph.now in
    let count : ℕ = c.args.share.count in
    let part : ℕ = c.args.share.part in
    let variables : (bit : ℕ) → is_within c.words_of.result (bit / 64) ≡ is_in_cut (length program.variable_names) count part bit =
    in_words count part c.bits.result (length program.variable_names) c.words_of.result c.bits.ensures.count c.words_of.ensures.first
    c.words_of.ensures.end in
    let expressions : (bit : ℕ) → is_within c.words_of-2.result (bit / 64) ≡ is_in_cut (bits program Avail) count part bit =
    in_words count part c.bits-2.result (bits program Avail) c.words_of-2.result c.bits-2.ensures.count c.words_of-2.ensures.first
    c.words_of-2.ensures.end in
    record { unset = variables; dead = variables; computed = expressions; busy = expressions }
