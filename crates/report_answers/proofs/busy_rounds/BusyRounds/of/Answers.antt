use Rattle.std.proofs.Common.{rules, ◌≡◌, ◌∙◌, ◌+◌, ◌*◌, ◌/◌, ◌^◌, ◌<◌, ◌≤◌, ℕ, true, false, length, refl, sym, subst, arith}
use Rattle.flow_graph.specs.Universes.{bits}
use Rattle.flow_graph.specs.declared.analysis.Analysis.TheVariants.{Busy}
use Rattle.report_answers.specs.code.Busy.{AreBusy}
use Rattle.report_answers.specs.code.Busy.AreBusy.{ended}
use Rattle.report_answers.specs.declared.chosen_bits.WordRange.{WordRange}
use Rattle.report_answers.proofs.busy.Within.{is_in, is_below, is_past}
use Rattle.tac_program.specs.Programs.{Program}
use Rattle.report_answers.proofs.busy_rounds.BusyRounds.of.Goals as goal

pub returns-clause-rounds : goal.returns-clause-rounds
returns-clause-rounds c =
    let program : Program = c.args.graph.now in
    let words : ℕ = c.words_for-words.result in
    let range : WordRange = c.busy_words-first.result in
    let high : 64 * words < bits program Busy + 64 = omega (arith, c.words_for-words.ensures, c.bits.ensures.count) in
    let low : bits program Busy ≤ 64 * words = omega (arith, c.words_for-words.ensures, c.bits.ensures.count) in
    let within : range.end ≤ words = c.busy_words-first.ensures.within in
    let ordered : range.first ≤ range.end = c.busy_words-first.ensures.ordered in
    let count : c.len.result ≡ length c.args.tests.items = search rules in
    record {
      same_bits = refl;
      same = refl;
      bounded = c.requires.bounds;
      wide = grind (arith, c.max.ensures);
      shared = omega (arith, c.share_of-share.ensures, c.round_room.ensures.few);
      are = c.requires.points;
      some = c.least_width-least.ensures.some;
      few = subst (λ (n : ℕ). n * c.least_width-least.result ≤ 2 ^ 25) count c.least_width-least.ensures.few;
      within = omega (arith, within, high);
      ordered = ordered;
      wanted = λ word from until.
          c.busy_words-first.ensures.asked word (omega (arith, until, within)) ∙ is_in range word from until;
      unwanted = λ word below.
          c.busy_words-first.ensures.asked word (omega (arith, below, ordered, within)) ∙ is_below range word below;
      count = c.in_ok-busy.ensures.firsts ∙ search rules;
      answered = λ i point there.
          subst (λ (n : ℕ). AreBusy c.args.chosen program c.in_ok-busy.busy.words.items point range.end n) (sym (c.in_ok-busy.ensures.each i))
          (ended range.end (λ bit above is.
          let below : bit / 64 < words = omega (arith, is.1, low) in
          let both : true ≡ false = sym is.0 ∙ c.busy_words-first.ensures.asked (bit / 64) below ∙ is_past range (bit / 64) (omega (arith, above)) in
          cc both));
    }

pub returns-clause-room : goal.returns-clause-room
returns-clause-room c =
    let count : c.len.result ≡ length c.args.tests.items = search rules in
    subst (λ (n : ℕ). c.args.before + n * c.least_width-least.result < 2 ^ 26) count c.least_width-least.ensures.room

pub returns-clause-shared : goal.returns-clause-shared
returns-clause-shared c = omega (arith, c.share_of-share.ensures, c.round_room.ensures.room)
