use Rattle.std.proofs.Common.{◌≡◌, ℕ, ◌+◌, ◌-◌, true, false, min, subst, arith}
use Rattle.flow_texts.specs.code.Members.{Named, Wrote, chosen}
use Rattle.flow_texts.specs.code.Runs.{IsRunBefore}
use Rattle.text_pieces.specs.Pieces.{Outlet, outlet}
use Rattle.text_pieces.specs.declared.pieces.Pieces.{Pieces}
use Rattle.flow_texts.proofs.sets.BitRuns.{bits_of_word, run_further}
use Rattle.flow_texts.proofs.sets.ListTexts.{wrote-none, wrote-further}
use Rattle.text_pieces.proofs.sinks.Taking.{stays_open}
use Rattle.flow_texts.proofs.members.write_word.Goals as goal

pub loop-place-init : goal.loop-place-init
loop-place-init g c =
    let run = c.args.run in
    let set : Named = chosen c.args.texts.now.texts g.member in
    let at : Pieces _ → Outlet = outlet g.K.Sink in
    let place : ℕ = c.next_one-place.result in
    let width : ℕ = c.args.end - c.args.first in
    let none : 0 ≡ run.first - run.first = omega arith in
    record {
      within = c.next_one-place.ensures.within;
      one = c.next_one-place.ensures.one;
      later = omega arith;
      after = run_further g.member c.args.first (c.args.first + min place width) run.first run.end c.requires.1.1.1.1.1.1 (omega arith)
          (λ n above below.
          bits_of_word c.args.word c.args.first c.args.end g.member c.requires.1.1.0 0 (min place width) false (omega (arith, c.requires.1.1.1.0))
          (λ k low high. c.next_one-place.ensures.before k low (omega (arith, high))) n (omega (arith, above)) below);
      wrote = subst (λ k. Wrote c.args.texts.now.between set run.others run.first k (at c.args.out.now) (at c.args.out.now) run.others) none
          (wrote-none c.args.texts.now.between set run.others run.first (at c.args.out.now));
    }

pub with_run-last-requires : goal.with_run-last-requires
with_run-last-requires g c κs within =
    let first : ℕ = c.args.first in
    let place : ℕ = c.loop-place.place in
    let stop : ℕ = c.min-stop.result in
    let here : first + min place (c.args.end - first) ≡ first + place = omega (arith, c.loop-place-test.true) in (
      within,
      (
        stays_open _ _ _ c.requires.1.0 c.loop-place.invariant.wrote.written,
        (
          subst (λ p. IsRunBefore g.member p c.loop-place.last.first c.loop-place.last.end) here c.loop-place.invariant.after,
          (
            bits_of_word c.args.word first c.args.end g.member c.requires.1.1.0 place stop true
                (omega (arith, c.min-stop.ensures, c.requires.1.1.1.0))
                (λ k low high. c.next_zero.ensures.before k low (omega (arith, high, c.min-stop.ensures))),
            (
              omega (arith, c.min-stop.ensures, c.next_zero.ensures.ordered, c.loop-place-test.true),
              omega (arith, c.min-stop.ensures, c.requires.1.1.1.0, c.requires.1.1.1.1.1.0),
            ),
          ),
        ),
      ),
    )

pub loop-place-preserved : goal.loop-place-preserved
loop-place-preserved g c =
    let run = c.args.run in
    let last = c.with_run-last.result in
    let set : Named = chosen c.args.texts.now.texts g.member in
    let at : Pieces _ → Outlet = outlet g.K.Sink in
    let first : ℕ = c.args.first in
    let width : ℕ = c.args.end - first in
    let stop : ℕ = c.min-stop.result in
    let next : ℕ = c.next_one-place-in-loop-place.result in
    record {
      within = c.next_one-place-in-loop-place.ensures.within;
      one = c.next_one-place-in-loop-place.ensures.one;
      later = omega (arith, c.loop-place.invariant.later, c.with_run-last.ensures.later);
      after = run_further g.member (first + stop) (first + min next width) last.first last.end c.with_run-last.ensures.after
          (omega (arith, c.next_one-place-in-loop-place.ensures.ordered, c.min-stop.ensures))
          (bits_of_word c.args.word first c.args.end g.member c.requires.1.1.0 stop (min next width) false (omega (arith, c.requires.1.1.1.0))
          (λ k low high. c.next_one-place-in-loop-place.ensures.before k low (omega (arith, high))));
      wrote = wrote-further c.args.texts.now.between set run.others run.first c.loop-place.last.first last.first (at c.args.out.now)
          (at c.loop-place.out) (at c.with_run-last.new.out)
          c.loop-place.last.others last.others c.loop-place.invariant.later c.with_run-last.ensures.later c.loop-place.invariant.wrote
          c.with_run-last.ensures.wrote;
    }

pub returns-clause-after : goal.returns-clause-after
returns-clause-after g c =
    let here : c.args.first + min c.loop-place.place (c.args.end - c.args.first) ≡ c.args.end =
    omega (arith, c.loop-place-test.false, c.requires.1.1.1.0) in
    subst (λ p. IsRunBefore g.member p c.loop-place.last.first c.loop-place.last.end) here c.loop-place.invariant.after
