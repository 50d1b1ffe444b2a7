use Rattle.std.proofs.Common.{◌<◌, ◌∙◌, ◌&&◌, ap, ap₂, sym, subst}
use Rattle.flow_graph.specs.Points.{point_count}
use Rattle.gen_kill.specs.Selections.{Selection, column_count, column_kills}
use Rattle.flow_reasons.proofs.holders.makes.Goals as goal

pub kills-writes-requires : goal.kills-writes-requires
kills-writes-requires c = record {
  point = subst (λ (f : Selection). c.args.point < point_count f.program) (sym c.requires.asked.live_is) c.requires.point;
  column = subst (λ (f : Selection). c.args.variable < column_count f) (sym c.requires.asked.live_is) c.requires.variable;
}

pub kills-evaluates-requires : goal.kills-evaluates-requires
kills-evaluates-requires c = record {
  point = subst (λ (f : Selection). c.args.point < point_count f.program) (sym c.requires.asked.available_is) c.requires.point;
  column = subst (λ (f : Selection). c.args.asked.now.expression < column_count f) (sym c.requires.asked.available_is) c.requires.asked.expression;
}

pub returns : goal.returns
returns c =
    let asked = c.args.asked.now in
    ap₂ (λ a b. a && b)
    (c.kills-writes.ensures ∙ ap (λ (f : Selection). column_kills f c.args.point c.args.variable) c.requires.asked.live_is)
    (c.kills-evaluates.ensures ∙ ap (λ (f : Selection). column_kills f c.args.point asked.expression) c.requires.asked.available_is)
