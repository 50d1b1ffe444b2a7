use Rattle.std.proofs.Common.{◌≡◌, ◌≤◌, ◌∙◌, min, length, take, ap, sym, subst, refl, arith}
use Rattle.std.proofs.lemmas.List.{take_min}
use Rattle.tac_lines.specs.Text.{line_after}
use Rattle.tac_reader.specs.declared.cursor.LineCursor.TheInside.{Inside}
use Rattle.tac_lines.proofs.lines.CursorLines.{lines_on}
use Rattle.tac_reader.proofs.cursor.LineCursor.line_at.Goals as goal
use Rattle.tac_reader.proofs.cursor.LineCursor.line_at.Goals.{then-stop-self, else-stop-self}

pub invariant_of-self : goal.invariant_of-self
invariant_of-self c =
    let Known : Inside → Type 0 = λ s. (s.text ≡ c.self.inside.text) × (s.at ≤ c.min-stop.result) × (s.line ≡ line_after (take s.at s.text.now)) in
    let known : Known c.if-stop-self.self-inside = elim c.if-stop-self.branch [
      | then-stop-self w ↦ subst Known (sym w.self-inside-is) (refl, omega arith, refl)
      | else-stop-self w ↦ subst Known (sym w.self-inside-is) (refl, w.if-stop-self.false, c.self.invariant.2)
    ] in
    let same : length c.if-stop-self.self-inside.text.now ≡ length c.self.inside.text.now = ap (λ t. length t.now) known.0 in (
      omega (arith, c.self.invariant.0),
      omega (arith, c.min-stop.ensures),
      lines_on c.if-stop-self.self-inside.text.now _ _ _ _ known.1 known.2 c.line_feeds.ensures,
    )

pub returns-clause-line : goal.returns-clause-line
returns-clause-line c =
    let Known : Inside → Type 0 = λ s. (s.text ≡ c.self.inside.text) × (s.at ≤ c.min-stop.result) × (s.line ≡ line_after (take s.at s.text.now)) in
    let known : Known c.if-stop-self.self-inside = elim c.if-stop-self.branch [
      | then-stop-self w ↦ subst Known (sym w.self-inside-is) (refl, omega arith, refl)
      | else-stop-self w ↦ subst Known (sym w.self-inside-is) (refl, w.if-stop-self.false, c.self.invariant.2)
    ] in
    let stop : c.min-stop.result ≡ min c.args.place (length c.self.inside.text.now) = omega (arith, c.min-stop.ensures) in
    lines_on c.if-stop-self.self-inside.text.now _ _ _ _ known.1 known.2 c.line_feeds.ensures
    ∙ ap line_after (ap (λ t. take c.min-stop.result t.now) known.0 ∙ ap (λ n. take n c.self.inside.text.now) stop
    ∙ take_min c.args.place c.self.inside.text.now ∙ ap (take c.args.place) c.self.view_is)
