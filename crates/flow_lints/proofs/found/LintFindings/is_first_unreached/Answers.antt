use Rattle.std.proofs.Common.{◌<◌, ◌∙◌, length, ap, subst, sym}
use Rattle.flow_graph.specs.Points.{entry_point, point_count}
use Rattle.flow_graph.specs.declared.place.Place.{Place}
use Rattle.flow_graph.proofs.places.PointLemmas.{points_have_places}
use Rattle.flow_lints.proofs.Known.{entry_below}
use Rattle.flow_lints.proofs.found.LintFindings.is_first_unreached.Goals as goal

pub point-entry-requires-clause-procedure : goal.point-entry-requires-clause-procedure
point-entry-requires-clause-procedure c =
    subst (λ (p : Place). p.procedure < length c.args.self.now.undoubted.graph.now.procedures) (sym c.place-procedure.ensures)
    (points_have_places c.args.self.now.undoubted.graph.now c.args.point c.requires.point).procedure

pub is_reached-requires-clause-point : goal.is_reached-requires-clause-point
is_reached-requires-clause-point c =
    subst (λ n. n < point_count c.args.self.now.undoubted.graph.now)
    (sym (c.point-entry.ensures ∙ ap (λ (p : Place). entry_point c.args.self.now.undoubted.graph.now p.procedure) c.place-procedure.ensures))
    (entry_below c.args.self.now.undoubted.graph.now c.args.point c.requires.point)
