use Rattle.std.proofs.Common.{◌<◌, ◌∙◌, ℕ, List, [], ◌∷◌, ◌++◌, refl, sym, ap, subst, append_assoc}
use Rattle.std.specs.List.{All}
use Rattle.std.proofs.lemmas.List.Elements.{All-head, All-tail}
use Rattle.flow_graph.specs.Points.{point_count}
use Rattle.lint_texts.specs.LintTexts.{file_text, later_lines}
use Rattle.lint_texts.proofs.Texts.{text_behind}
use Rattle.lint_texts.proofs.Unset.{later_below}
use Rattle.text_pieces.proofs.sinks.Taking.{takes_as, takes_nothing, takes_then}
use Rattle.lint_texts.proofs.lines.LintLines.write_all_later.Goals as goal

pub loop-one-init : goal.loop-one-init
loop-one-init g c =
    let self = c.args.self.now in (
      [],
      record {
        left = _;
        all = refl;
        follow = c.second-number.ensures;
        placed = later_below self.telling self.graph.now self.linted.now c.args.variable c.requires.lines.placed.lints;
      },
      takes_nothing _,
    )

pub write_later-requires-clause-point : goal.write_later-requires-clause-point
write_later-requires-clause-point g c =
    let followed = c.loop-one.invariant.1 in
    let next = c.in-Some.ensures followed.left followed.follow in
    let P : ℕ → Type 0 = λ p. p < point_count c.args.self.now.graph.now in
    All-head P c.in-Some.one.point next.0 (subst (All P) next.2 followed.placed)

pub loop-one-preserved : goal.loop-one-preserved
loop-one-preserved g c =
    let self = c.args.self.now in
    let done = c.loop-one.invariant.0 in
    let followed = c.loop-one.invariant.1 in
    let next = c.in-Some.ensures followed.left followed.follow in
    let P : ℕ → Type 0 = λ p. p < point_count self.graph.now in
    let point = c.in-Some.one.point in (
      done ++ point ∷ [],
      record {
        left = next.0;
        all = followed.all ∙ ap (λ (r : List ℕ). done ++ r) next.2 ∙ sym (append_assoc done (point ∷ []) next.0);
        follow = next.3;
        placed = All-tail P point next.0 (subst (All P) next.2 followed.placed);
      },
      takes_as _ _ _ _ (takes_then _ _ _ _ _ c.loop-one.invariant.2 c.write_later.ensures)
          (text_behind (later_lines (file_text self.file) self.telling.style self.graph.now c.args.variable) done point),
    )
