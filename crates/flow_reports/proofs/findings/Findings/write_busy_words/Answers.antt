-- The words that have a bit, one after the other; between them is none.
use Rattle.std.proofs.Common.{◌≡◌, ℕ, suc, ◌+◌, ◌-◌, ◌*◌, ◌<◌, ◌≤◌, Bool, true, false, List, Some, min, refl, sym, ap, subst, arith}
use Rattle.std.proofs.lemmas.Bool.Decides.{same_from_decides}
use Rattle.std.proofs.lemmas.Option.{slice_get_within}
use Rattle.bit_rows.specs.Words.{has_bit}
use Rattle.flow_graph.specs.Points.{kind_at, point_count}
use Rattle.flow_graph.specs.Universes.{bits}
use Rattle.flow_graph.specs.declared.analysis.Analysis.TheVariants.{Busy}
use Rattle.tac_program.specs.Programs.{Program}
use Rattle.tac_program.specs.declared.program.StmtKind.{StmtKind}
use Rattle.report_answers.specs.Statements.{is_test}
use Rattle.report_answers.specs.code.Busy.{AreBusy, IsBusy}
use Rattle.flow_reports.specs.code.Findings.{AreChosenFindings, knowledge_of}
use Rattle.flow_reports.specs.declared.findings.Findings.{Findings}
use Rattle.flow_reports.specs.declared.remark.Remark.TheVariants.{VeryBusy}
use Rattle.report_answers.proofs.busy.Lists.{IsFirst, ended_known, first_known}
use Rattle.flow_reports.proofs.knowledge.KnownReports.{busy_in, busy_in_word}
use Rattle.flow_texts.proofs.sets.RangeLines.{next_word, no_more, texts_between}
use Rattle.text_pieces.specs.Pieces.{Outlet, outlet}
use Rattle.text_pieces.specs.declared.pieces.Pieces.{Pieces}
use Rattle.text_pieces.proofs.sinks.Taking.{takes_as, takes_nothing}
use Rattle.flow_reports.proofs.findings.Findings.write_busy_words.Goals as goal

not_true : (b : Bool) → (b ≡ true → ⊥) → b ≡ false
not_true true never = absurd (never refl)
not_true false never = refl

-- what is not in the table is not told
none_known : (found : Findings) → AreChosenFindings found → (point : ℕ) (kind : StmtKind) → point < point_count found.graph.now
    → kind_at found.graph.now point ≡ Some kind → is_test kind ≡ true → (bit : ℕ)
    → (bit < bits found.graph.now Busy → ¬ (IsBusy found.answers.now.chosen found.graph.now point bit))
    → (knowledge_of found).busy.contains point bit ≡ false
none_known found are point kind below at test bit none =
    not_true ((knowledge_of found).busy.contains point bit)
    (λ has. let both = (busy_in found are point kind below at test bit).0 has in none both.1 both)

pub first_busy-next-requires : goal.first_busy-next-requires
first_busy-next-requires g c =
    let answers = c.requires.found.answers in
    let queried = answers.queried c.args.point c.places.result c.args.kind.now c.places.ensures c.requires.kind in
    let inside = slice_get_within c.args.self.now.answers.now.tests c.places.result.test c.args.point (queried.test c.requires.test) in
    omega (arith, inside, answers.firsts)

pub loop-busy-init : goal.loop-busy-init
loop-busy-init g c =
    let program : Program = c.args.self.now.graph.now in
    let answers = c.requires.found.answers in
    let text : ℕ → List ℕ = λ e. g.F.ChosenForm.text c.args.form.now program c.args.point (VeryBusy e) in
    let test : ℕ → Bool = (knowledge_of c.args.self.now).busy.contains c.args.point in
    let at : Pieces _ → Outlet = outlet g.K.Sink in
    let queried = answers.queried c.args.point c.places.result c.args.kind.now c.places.ensures c.requires.kind in
    let none : min (bits program Busy) (64 * 0) ≡ 0 = omega arith in
    record {
      from = 0;
      answered = subst (λ (n : ℕ). AreBusy c.args.self.now.answers.now.chosen program c.args.self.now.answers.now.busy.words c.args.point 0 n) (sym c.first_busy-next.ensures)
          (answers.busy c.places.result.test c.args.point (queried.test c.requires.test));
      writes = takes_as _ _ _ _ (takes_nothing (at c.args.out.now)) (sym (ap (texts_between text test 0) none));
    }

pub overflow_mul-first : goal.overflow_mul-first
overflow_mul-first g c =
    let inv = c.loop-busy.invariant in
    let first : IsFirst c.args.self.now.answers.now.chosen c.args.self.now.graph.now c.args.point c.args.self.now.answers.now.busy.words inv.from c.in-Some.ensures.0 c.in-Some.busy =
    first_known c.args.self.now.answers.now.chosen c.args.self.now.graph.now c.args.point c.args.self.now.answers.now.busy.words inv.from c.loop-busy.next c.in-Some.ensures.0
    c.in-Some.busy c.in-Some.ensures.1 c.in-Some.ensures.2 inv.answered in
    omega (arith, first.within, c.bits-bits.ensures.count, c.bits-bits.ensures.most)

pub overflow_mul-busy : goal.overflow_mul-busy
overflow_mul-busy g c =
    let inv = c.loop-busy.invariant in
    let first : IsFirst c.args.self.now.answers.now.chosen c.args.self.now.graph.now c.args.point c.args.self.now.answers.now.busy.words inv.from c.in-Some.ensures.0 c.in-Some.busy =
    first_known c.args.self.now.answers.now.chosen c.args.self.now.graph.now c.args.point c.args.self.now.answers.now.busy.words inv.from c.loop-busy.next c.in-Some.ensures.0
    c.in-Some.busy c.in-Some.ensures.1 c.in-Some.ensures.2 inv.answered in
    omega (arith, first.within, c.bits-bits.ensures.count, c.bits-bits.ensures.most)

pub overflow_add-busy : goal.overflow_add-busy
overflow_add-busy g c =
    let inv = c.loop-busy.invariant in
    let first : IsFirst c.args.self.now.answers.now.chosen c.args.self.now.graph.now c.args.point c.args.self.now.answers.now.busy.words inv.from c.in-Some.ensures.0 c.in-Some.busy =
    first_known c.args.self.now.answers.now.chosen c.args.self.now.graph.now c.args.point c.args.self.now.answers.now.busy.words inv.from c.loop-busy.next c.in-Some.ensures.0
    c.in-Some.busy c.in-Some.ensures.1 c.in-Some.ensures.2 inv.answered in
    omega (arith, first.within, c.bits-bits.ensures.count, c.bits-bits.ensures.most)

pub write_busy_word-requires-clause-word : goal.write_busy_word-requires-clause-word
write_busy_word-requires-clause-word g c = λ k small.
    let inv = c.loop-busy.invariant in
    let first : IsFirst c.args.self.now.answers.now.chosen c.args.self.now.graph.now c.args.point c.args.self.now.answers.now.busy.words inv.from c.in-Some.ensures.0 c.in-Some.busy =
    first_known c.args.self.now.answers.now.chosen c.args.self.now.graph.now c.args.point c.args.self.now.answers.now.busy.words inv.from c.loop-busy.next c.in-Some.ensures.0
    c.in-Some.busy c.in-Some.ensures.1 c.in-Some.ensures.2 inv.answered in
    let word : ℕ = c.in-Some.busy.word in
    same_from_decides (has_bit c.in-Some.busy.mask k) ((knowledge_of c.args.self.now).busy.contains c.args.point (64 * word + k))
    (first.answers k small)
    (busy_in_word c.args.self.now c.requires.found c.args.point c.args.kind.now c.requires.point c.requires.kind c.requires.test word k small
    first.asked)

pub write_busy_word-requires-clause-ordered : goal.write_busy_word-requires-clause-ordered
write_busy_word-requires-clause-ordered g c =
    let inv = c.loop-busy.invariant in
    let first : IsFirst c.args.self.now.answers.now.chosen c.args.self.now.graph.now c.args.point c.args.self.now.answers.now.busy.words inv.from c.in-Some.ensures.0 c.in-Some.busy =
    first_known c.args.self.now.answers.now.chosen c.args.self.now.graph.now c.args.point c.args.self.now.answers.now.busy.words inv.from c.loop-busy.next c.in-Some.ensures.0
    c.in-Some.busy c.in-Some.ensures.1 c.in-Some.ensures.2 inv.answered in
    omega (arith, first.within, c.bits-bits.ensures.count, c.min-end.ensures)

pub loop-busy-smaller : goal.loop-busy-smaller
loop-busy-smaller g c =
    let inv = c.loop-busy.invariant in
    let first : IsFirst c.args.self.now.answers.now.chosen c.args.self.now.graph.now c.args.point c.args.self.now.answers.now.busy.words inv.from c.in-Some.ensures.0 c.in-Some.busy =
    first_known c.args.self.now.answers.now.chosen c.args.self.now.graph.now c.args.point c.args.self.now.answers.now.busy.words inv.from c.loop-busy.next c.in-Some.ensures.0
    c.in-Some.busy c.in-Some.ensures.1 c.in-Some.ensures.2 inv.answered in
    omega (arith, first.lower, c.in-Some.ensures.1)

pub loop-busy-preserved : goal.loop-busy-preserved
loop-busy-preserved g c =
    let program : Program = c.args.self.now.graph.now in
    let point : ℕ = c.args.point in
    let words = c.args.self.now.answers.now.busy.words in
    let text : ℕ → List ℕ = λ e. g.F.ChosenForm.text c.args.form.now program point (VeryBusy e) in
    let test : ℕ → Bool = (knowledge_of c.args.self.now).busy.contains point in
    let at : Pieces _ → Outlet = outlet g.K.Sink in
    let busy = c.in-Some.busy in
    let most : ℕ = bits program Busy in
    let inv = c.loop-busy.invariant in
    let first : IsFirst c.args.self.now.answers.now.chosen c.args.self.now.graph.now c.args.point c.args.self.now.answers.now.busy.words inv.from c.in-Some.ensures.0 c.in-Some.busy =
    first_known c.args.self.now.answers.now.chosen c.args.self.now.graph.now c.args.point c.args.self.now.answers.now.busy.words inv.from c.loop-busy.next c.in-Some.ensures.0
    c.in-Some.busy c.in-Some.ensures.1 c.in-Some.ensures.2 inv.answered in
    let before : min most (64 * inv.from) ≤ min most (64 * busy.word) = omega (arith, first.above) in
    let none : (i : ℕ) → min most (64 * inv.from) ≤ i → i < min most (64 * busy.word) → test i ≡ false =
    λ i low high. none_known c.args.self.now c.requires.found point c.args.kind.now c.requires.point c.requires.kind c.requires.test i
    (λ below. first.gap i (omega (arith, low, below)) (omega (arith, high))) in
    let end : c.min-end.result ≡ min most (64 * busy.word + 64) = omega (arith, c.min-end.ensures, c.bits-bits.ensures.count) in
    let next : suc busy.word ≡ busy.word + 1 = omega arith in
    record {
      from = busy.word + 1;
      answered = subst (λ (n : ℕ). AreBusy c.args.self.now.answers.now.chosen program words point n busy.next) next first.rest;
      writes = next_word text test most busy.word (at c.args.out.now) (at c.loop-busy.out) (at c.write_busy_word.new.out) first.within
          (takes_as _ _ _ _ inv.writes (no_more text test (min most (64 * inv.from)) (min most (64 * busy.word)) before none))
          (takes_as _ _ _ _ c.write_busy_word.ensures (ap (λ (e : ℕ). texts_between text test (64 * busy.word) (e - 64 * busy.word)) end));
    }

pub returns : goal.returns
returns g c =
    let program : Program = c.args.self.now.graph.now in
    let point : ℕ = c.args.point in
    let words = c.args.self.now.answers.now.busy.words in
    let text : ℕ → List ℕ = λ e. g.F.ChosenForm.text c.args.form.now program point (VeryBusy e) in
    let test : ℕ → Bool = (knowledge_of c.args.self.now).busy.contains point in
    let most : ℕ = bits program Busy in
    let inv = c.loop-busy.invariant in
    let rest = ended_known c.args.self.now.answers.now.chosen program point words inv.from c.loop-busy.next c.in_default.ensures inv.answered in
    let none : (i : ℕ) → min most (64 * inv.from) ≤ i → i < most → test i ≡ false =
    λ i low high. none_known c.args.self.now c.requires.found point c.args.kind.now c.requires.point c.requires.kind c.requires.test i
    (λ below. rest i (omega (arith, low, below))) in
    takes_as _ _ _ _ inv.writes (no_more text test (min most (64 * inv.from)) most (omega arith) none)
