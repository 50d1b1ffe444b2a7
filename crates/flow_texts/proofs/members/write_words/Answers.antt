use Rattle.std.proofs.Common.{◌≡◌, ℕ, ◌+◌, ◌*◌, ◌<◌, false, min, ◌∙◌, subst, arith}
use Rattle.flow_texts.specs.code.Members.{Named, chosen}
use Rattle.flow_texts.specs.code.Runs.{IsRunBefore}
use Rattle.text_pieces.specs.Pieces.{Outlet, outlet}
use Rattle.text_pieces.specs.declared.pieces.Pieces.{Pieces}
use Rattle.flow_texts.proofs.sets.ListTexts.{wrote-first, wrote-run}
use Rattle.text_pieces.proofs.sinks.Taking.{stays_open}
use Rattle.flow_texts.proofs.members.write_words.Goals as goal

pub write_word-run-requires : goal.write_word-run-requires
write_word-run-requires g c κs within =
    let first : ℕ = 64 * c.loop-at.at in
    let below : first < c.args.bits =
    omega (arith, c.words_for-at-end.ensures, c.loop-at-test.true) in
    let here : min c.args.bits first ≡ first = omega (arith, below) in (
      within,
      (
        stays_open _ _ _ c.requires.1.0 c.loop-at.invariant.wrote.written,
        (
          (λ k inside. c.word.ensures.set k (omega (arith, inside, c.min.ensures)) ∙ c.requires.1.1.1.1 (first + k)),
          (
            omega arith,
            (
              omega (arith, c.min.ensures),
              (
                omega (arith, c.min.ensures, below, c.requires.1.1.1.0),
                subst (λ p. IsRunBefore g.member p c.loop-at.run.first c.loop-at.run.end) here c.loop-at.invariant.after,
              ),
            ),
          ),
        ),
      ),
    )

pub loop-at-preserved : goal.loop-at-preserved
loop-at-preserved g c =
    let run = c.loop-at.run in
    let next = c.write_word-run.result in
    let set : Named = chosen c.args.texts.now.texts g.member in
    let at : Pieces _ → Outlet = outlet g.K.Sink in
    let first : ℕ = 64 * c.loop-at.at in
    let below : first < c.args.bits =
    omega (arith, c.words_for-at-end.ensures, c.loop-at-test.true) in
    let there : first + c.min.result ≡ min c.args.bits (64 * (c.loop-at.at + 1)) = omega (arith, below, c.min.ensures) in
    record {
      after = subst (λ p. IsRunBefore g.member p next.first next.end) there c.write_word-run.ensures.after;
      wrote = wrote-first c.args.texts.now.between set false run.first next.first (at c.args.out.now) (at c.loop-at.out) (at c.write_word-run.new.out)
          run.others next.others
          c.write_word-run.ensures.later c.loop-at.invariant.wrote c.write_word-run.ensures.wrote;
    }

pub returns : goal.returns
returns g c =
    let run = c.loop-at.run in
    let set : Named = chosen c.args.texts.now.texts g.member in
    let at : Pieces _ → Outlet = outlet g.K.Sink in
    let all : min c.args.bits (64 * c.loop-at.at) ≡ c.args.bits =
    omega (arith, c.words_for-at-end.ensures, c.loop-at-test.false) in
    let last : IsRunBefore g.member c.args.bits run.first run.end =
    subst (λ p. IsRunBefore g.member p run.first run.end) all c.loop-at.invariant.after in
    wrote-first c.args.texts.now.between set false run.first c.args.bits (at c.args.out.now) (at c.loop-at.out) (at c.write_run.new.out)
    run.others c.write_run.result
    (omega (arith, last.ordered, last.before)) c.loop-at.invariant.wrote
    (wrote-run c.args.texts.now.between set run.others run.first run.end c.args.bits (at c.loop-at.out) (at c.write_run.new.out)
    c.write_run.result last.ordered last.before last.inside last.behind
    c.write_run.ensures.writes c.write_run.ensures.any)
