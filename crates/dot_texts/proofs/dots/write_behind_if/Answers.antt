use Rattle.std.proofs.Common.{◌≡◌, ◌∙◌, ◌&&◌, ℕ, Bool, true, List, append-nil, flat_map, sym, ap}
use Rattle.std.proofs.lemmas.Bool.{and_parts}
use Rattle.text_pieces.proofs.sinks.Taking.{takes_as}
use Rattle.tac_program.specs.Programs.{Program}
use Rattle.flow_reports.specs.Reports.{Knowledge}
use Rattle.point_sets.specs.Sets.{has_behind}
use Rattle.point_sets.specs.declared.side.Side.{Side}
use Rattle.point_sets.specs.declared.side.Side.TheVariants.{Behind}
use Rattle.flow_views.specs.Dots.{behind_if, label_line, told_on}
use Rattle.flow_views.specs.code.ViewProgram.{known_of}
use Rattle.dot_texts.proofs.dots.write_behind_if.Goals as goal

-- the side that is shown
one_side : (f : Side → List ℕ) (b : Bool) → b ≡ true → f Behind ≡ flat_map f (behind_if b)
one_side f b is = sym (ap (λ t. flat_map f (behind_if t)) is ∙ append-nil (f Behind))

pub write_told_on-requires-clause-side : goal.write_told_on-requires-clause-side
write_told_on-requires-clause-side g c = λ _.
    (and_parts c.args.shown.now.view.look.behind (has_behind c.args.shown.now.found.graph.now c.args.point)
    (sym c.shows_behind.ensures ∙ c.if-not-shows_behind.false)).1

pub returns : goal.returns
returns g c =
    let program : Program = c.args.shown.now.found.graph.now in
    let known : Knowledge = known_of c.args.shown.now in
    takes_as _ _ _ _ c.write_told_on.ensures
    (one_side (λ s. flat_map label_line (told_on program known c.args.shown.now.view c.args.point c.args.table.now.analysis s))
    (c.args.shown.now.view.look.behind && has_behind program c.args.point)
    (sym c.shows_behind.ensures ∙ c.if-not-shows_behind.false))
