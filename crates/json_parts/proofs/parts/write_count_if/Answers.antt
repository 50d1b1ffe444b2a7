use Rattle.std.proofs.Common.{Bool, [], ap, sym, if◌then◌else◌}
use Rattle.std.proofs.lemmas.Bool.{eq-eqb}
use Rattle.json_parts.specs.JsonParts.{count_object}
use Rattle.text_pieces.proofs.sinks.Taking.{takes_as}
use Rattle.json_parts.proofs.parts.write_count_if.Goals as goal

pub returns : goal.returns
returns g c =
    takes_as _ _ _ _ c.write_count.ensures
    (sym (ap (λ (b : Bool). if b then count_object c.args.graph.now else []) (eq-eqb c.args.part 1 c.if-part-ne1.false)))
