use Rattle.std.proofs.Common.{◌∙◌, ◌++◌, ℕ, List, ap, codes, decimal, filter, map, not}
use Rattle.flow_graph.specs.Analyses.{is_must}
use Rattle.flow_rounds.specs.Steps.{computes}
use Rattle.flow_rounds.specs.code.Frames.{iteration_of}
use Rattle.flow_views.specs.Json.{array}
use Rattle.flow_views.specs.Views.{analysis_name}
use Rattle.text_pieces.specs.Strings.{quoted}
use Rattle.flow_steps.specs.StepTexts.{beginning_name}
use Rattle.flow_steps.specs.code.Told.{known_told, points_of}
use Rattle.flow_steps.proofs.told.Pushes.{six}
use Rattle.flow_steps.proofs.lines.push_start.Goals as goal

pub returns : goal.returns
returns c =
    six c.args.text.now.items c.push_beginning.new.text.items c.push_bytes.new.text.items c.push_numbers.new.text.items c.push_bytes-2.new.text.items
    c.push_all_known.new.text.items c.push_bytes-3.new.text.items
    (codes "{\"type\":\"start\",\"analysis\":" ++ quoted (analysis_name c.args.frame.now.analysis)
    ++ codes ",\"begin\":" ++ quoted (beginning_name (is_must c.args.frame.now.analysis))) (codes ",\"order\":")
    (array (map decimal c.args.frame.now.order)) (codes ",\"known\":") (array (map (known_told c.args.frame.now c.args.columns.now)
    (filter (λ point. not (computes (iteration_of c.args.frame.now) point)) (points_of c.args.frame.now.points)))) (codes "}\n")
    c.in_ok-push_beginning.ensures c.in_ok-push_bytes.ensures
    (c.in_ok-push_numbers.ensures ∙ ap (λ (order : List ℕ). c.push_bytes.new.text.items ++ array (map decimal order)) c.order.ensures.order)
    c.in_ok-push_bytes-2.ensures
    (c.in_ok-push_all_known.ensures ∙ ap (λ (points : List ℕ). c.push_bytes-2.new.text.items
    ++ array (map (known_told c.args.frame.now c.args.columns.now) points)) (c.as_slice.ensures.value ∙ c.in_ok-known.ensures.points))
    c.in_ok-push_bytes-3.ensures
