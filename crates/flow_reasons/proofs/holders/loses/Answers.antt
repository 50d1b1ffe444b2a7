use Rattle.std.proofs.Common.{◌<◌, ◌∙◌, ◌&&◌, ◌||◌, not, ap, ap₂, sym, subst}
use Rattle.flow_graph.specs.Points.{point_count}
use Rattle.gen_kill.specs.Selections.{Selection, column_count, column_gens, column_kills}
use Rattle.flow_reasons.proofs.meetings.Holding.{lost_is}
use Rattle.flow_reasons.proofs.holders.loses.Goals as goal

pub kills-writes-requires : goal.kills-writes-requires
kills-writes-requires c = record {
  point = subst (λ (f : Selection). c.args.point < point_count f.program) (sym c.requires.asked.live_is) c.requires.point;
  column = subst (λ (f : Selection). c.args.variable < column_count f) (sym c.requires.asked.live_is) c.requires.variable;
}

pub gens-changes-requires : goal.gens-changes-requires
gens-changes-requires c = record {
  point = subst (λ (f : Selection). c.args.point < point_count f.program) (sym c.requires.asked.available_is) c.requires.point;
  column = subst (λ (f : Selection). c.args.asked.now.expression < column_count f) (sym c.requires.asked.available_is) c.requires.asked.expression;
}

pub returns : goal.returns
returns c =
    let asked = c.args.asked.now in
    let writes = c.kills-writes.ensures ∙ ap (λ (f : Selection). column_kills f c.args.point c.args.variable) c.requires.asked.live_is in
    let changes = c.gens-changes.ensures ∙ ap (λ (f : Selection). column_gens f c.args.point asked.expression) c.requires.asked.available_is in
    ap₂ (λ a b. a && not b) (ap₂ (λ a b. a || b) writes changes) c.makes-made.ensures
    ∙ lost_is asked.graph.now asked.expression c.args.variable c.args.point
