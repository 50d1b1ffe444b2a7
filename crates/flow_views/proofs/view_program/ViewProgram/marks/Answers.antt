use Rattle.std.proofs.Common.{◌≡◌, ◌&&◌, ◌∙◌, ℕ, Bool, true, false, List, [], refl, sym, ap}
use Rattle.text_pieces.specs.code.Lists.{some_stand}
use Rattle.tac_program.specs.Programs.{Program}
use Rattle.flow_reports.specs.Reports.{dead_at, unset_at}
use Rattle.flow_views.specs.code.ViewProgram.{known_of}
use Rattle.flow_views.proofs.facts.Known.{flag_known}
use Rattle.flow_views.proofs.facts.Tables.{none_dead, none_unset}
use Rattle.flow_views.proofs.view_program.ViewProgram.marks.Goals as goal

none_stand : (b : Bool) (xs : List ℕ) → xs ≡ [] → false ≡ (b && some_stand xs)
none_stand true xs is = sym (ap some_stand is)
none_stand false xs is = refl

pub statement_marks-requires-clause-reached : goal.statement_marks-requires-clause-reached
statement_marks-requires-clause-reached c =
    sym (flag_known c.args.self.now c.requires.shown c.args.point c.requires.point) ∙ sym c.is_reached.ensures ∙ c.if-not-is_reached.false

pub returns-then-not-is_reached : goal.returns-then-not-is_reached
returns-then-not-is_reached c i =
    let shown = c.args.self.now in
    let program : Program = shown.found.graph.now in
    let reached = sym c.if-not-is_reached.true ∙ c.is_reached.ensures ∙ flag_known shown c.requires.shown c.args.point c.requires.point in
    record {
      reached = reached i;
      unset = reached i && some_stand (unset_at program (known_of shown) c.args.point);
      dead = reached i && some_stand (dead_at program (known_of shown) c.args.point);
      doubtful = c.is_doubtful.ensures i;
    }

pub returns-in-None : goal.returns-in-None
returns-in-None c i =
    let shown = c.args.self.now in
    let program : Program = shown.found.graph.now in
    let reached = sym c.if-not-is_reached.false ∙ c.is_reached.ensures ∙ flag_known shown c.requires.shown c.args.point c.requires.point in
    let path : Bool = (known_of shown).reach.has_path c.args.point in
    record {
      reached = reached i;
      unset = none_stand path (unset_at program (known_of shown) c.args.point) (none_unset program (known_of shown) c.args.point (sym c.in-None.ensures.stmt)) i;
      dead = none_stand path (dead_at program (known_of shown) c.args.point) (none_dead program (known_of shown) c.args.point (sym c.in-None.ensures.stmt)) i;
      doubtful = c.is_doubtful-in-None.ensures i;
    }
