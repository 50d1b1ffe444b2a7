use Rattle.std.proofs.Common.{◌∙◌, ◌+◌, ◌++◌, ℕ, List, ap, codes, decimal, filter, map}
use Rattle.flow_views.specs.Json.{array}
use Rattle.flow_views.specs.Views.{analysis_name}
use Rattle.text_pieces.specs.Strings.{quoted}
use Rattle.flow_steps.specs.code.Told.{change_told, differs}
use Rattle.flow_steps.proofs.told.Pushes.{six}
use Rattle.flow_steps.proofs.lines.push_round.Goals as goal

pub returns-clause-text : goal.returns-clause-text
returns-clause-text c =
    six c.args.text.now.items c.push_head.new.text.items c.push_bytes.new.text.items c.push_number.new.text.items c.push_bytes-2.new.text.items
    c.push_changes.new.text.items c.push_bytes-3.new.text.items
    (codes "{\"type\":\"round\",\"analysis\":" ++ quoted (analysis_name c.args.frame.now.analysis)) (codes ",\"round\":")
    (decimal (c.args.rounds + 1))
    (codes ",\"changed\":") (array (map (change_told c.args.frame.now c.args.old.now c.args.new.now)
    (filter (differs c.args.frame.now c.args.old.now c.args.new.now) c.args.frame.now.order))) (codes "}\n")
    c.in_ok-push_head.ensures c.in_ok-push_bytes.ensures c.in_ok-push_number.ensures c.in_ok-push_bytes-2.ensures
    (c.in_ok-push_changes.ensures ∙ ap (λ (points : List ℕ). c.push_bytes-2.new.text.items
    ++ array (map (change_told c.args.frame.now c.args.old.now c.args.new.now) points)) (c.as_slice.ensures.value ∙ c.in_ok-points.ensures.points))
    c.in_ok-push_bytes-3.ensures
