use Rattle.std.proofs.Common.{◌<◌, ◌∙◌, ℕ, List, [], ◌∷◌, ◌++◌, refl, sym, ap, subst, append_assoc, append-nil}
use Rattle.std.specs.List.{All}
use Rattle.std.proofs.lemmas.List.Elements.{All-head, All-tail}
use Rattle.flow_graph.specs.Points.{point_count}
use Rattle.lint_json.specs.LintJson.{later_line}
use Rattle.lint_json.proofs.Elements.{put_behind}
use Rattle.lint_texts.proofs.Unset.{later_below}
use Rattle.lint_json.proofs.notes.push_all_later.Goals as goal

pub loop-one-init : goal.loop-one-init
loop-one-init c =
    let lines = c.args.lines.now in (
      [],
      record {
        left = _;
        all = refl;
        follow = c.second-number.ensures;
        placed = later_below lines.telling lines.graph.now lines.linted.now c.args.variable c.requires.placed.lints;
      },
      sym (append-nil c.args.text.now.items),
    )

pub push_later-requires-clause-point : goal.push_later-requires-clause-point
push_later-requires-clause-point c =
    let followed = c.loop-one.invariant.1 in
    let next = c.in-Some.ensures followed.left followed.follow in
    let P : ℕ → Type 0 = λ p. p < point_count c.args.lines.now.graph.now in
    All-head P c.in-Some.one.point next.0 (subst (All P) next.2 followed.placed)

pub loop-one-preserved : goal.loop-one-preserved
loop-one-preserved c =
    let lines = c.args.lines.now in
    let done = c.loop-one.invariant.0 in
    let followed = c.loop-one.invariant.1 in
    let next = c.in-Some.ensures followed.left followed.follow in
    let P : ℕ → Type 0 = λ p. p < point_count lines.graph.now in
    let point = c.in-Some.one.point in (
      done ++ point ∷ [],
      record {
        left = next.0;
        all = followed.all ∙ ap (λ (r : List ℕ). done ++ r) next.2 ∙ sym (append_assoc done (point ∷ []) next.0);
        follow = next.3;
        placed = All-tail P point next.0 (subst (All P) next.2 followed.placed);
      },
      put_behind (later_line c.args.name.now lines.file.text.now lines.graph.now c.args.variable) done point c.args.text.now.items _ _
          c.loop-one.invariant.2 c.in_ok-push_later.ensures,
    )
