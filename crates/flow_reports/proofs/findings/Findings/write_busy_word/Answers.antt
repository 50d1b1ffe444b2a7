-- The ones of a word are the expressions that are very busy.
use Rattle.std.proofs.Common.{◌≡◌, ℕ, ◌-◌, ◌<◌, Bool, List, min, sym, ap, ◌∙◌, arith}
use Rattle.std.specs.List.{range_with_len}
use Rattle.flow_reports.specs.code.Findings.{knowledge_of}
use Rattle.flow_texts.specs.code.Members.{texts_where}
use Rattle.text_pieces.specs.Pieces.{Outlet, outlet}
use Rattle.text_pieces.specs.declared.pieces.Pieces.{Pieces}
use Rattle.flow_reports.specs.declared.remark.Remark.TheVariants.{VeryBusy}
use Rattle.flow_texts.proofs.sets.RangeLines.{next_member, none_texts}
use Rattle.text_pieces.proofs.sinks.Taking.{takes_as, takes_nothing}
use Rattle.flow_reports.proofs.findings.Findings.write_busy_word.Goals as goal

pub loop-place-init : goal.loop-place-init
loop-place-init g c =
    let text : ℕ → List ℕ = λ e. g.F.ChosenForm.text c.args.form.now c.args.self.now.graph.now c.args.point (VeryBusy e) in
    let test : ℕ → Bool = (knowledge_of c.args.self.now).busy.contains c.args.point in
    let at : Pieces _ → Outlet = outlet g.K.Sink in
    let place : ℕ = c.next_one-place.result in
    let width : ℕ = c.args.word.end - c.args.word.first in
    record {
      within = c.next_one-place.ensures.within;
      one = c.next_one-place.ensures.one;
      writes = takes_as _ _ _ _ (takes_nothing (at c.args.out.now))
          (sym (none_texts text test c.args.word.first (min width place)
          (λ i below. sym (c.requires.word i (omega (arith, below, c.next_one-place.ensures.within)))
          ∙ c.next_one-place.ensures.before i (omega arith) (omega (arith, below)))));
    }

pub loop-place-preserved : goal.loop-place-preserved
loop-place-preserved g c =
    let text : ℕ → List ℕ = λ e. g.F.ChosenForm.text c.args.form.now c.args.self.now.graph.now c.args.point (VeryBusy e) in
    let test : ℕ → Bool = (knowledge_of c.args.self.now).busy.contains c.args.point in
    let place : ℕ = c.loop-place.place in
    let next : ℕ = c.next_one-place-in-loop-place.result in
    let width : ℕ = c.args.word.end - c.args.word.first in
    let low : place < 64 = omega (arith, c.loop-place-test.true, c.requires.width) in
    record {
      within = c.next_one-place-in-loop-place.ensures.within;
      one = c.next_one-place-in-loop-place.ensures.one;
      writes = next_member text test c.args.word.first place next width _ _ _ c.loop-place-test.true c.next_one-place-in-loop-place.ensures.ordered
          (sym (c.requires.word place low) ∙ c.loop-place.invariant.one low)
          (λ k above below. sym (c.requires.word k (omega (arith, below, c.next_one-place-in-loop-place.ensures.within)))
          ∙ c.next_one-place-in-loop-place.ensures.before k above (omega (arith, below)))
          c.loop-place.invariant.writes c.write_remark.ensures;
    }

pub returns : goal.returns
returns g c =
    let text : ℕ → List ℕ = λ e. g.F.ChosenForm.text c.args.form.now c.args.self.now.graph.now c.args.point (VeryBusy e) in
    let width : ℕ = c.args.word.end - c.args.word.first in
    let all : min width c.loop-place.place ≡ width = omega (arith, c.loop-place-test.false) in
    takes_as _ _ _ _ c.loop-place.invariant.writes
    (ap (λ n. texts_where text ((knowledge_of c.args.self.now).busy.contains c.args.point) (range_with_len c.args.word.first n)) all)
