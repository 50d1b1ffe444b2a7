use Rattle.std.proofs.Common.{◌≡◌, ◌∙◌, ℕ, ◌+◌, ◌-◌, List, ◌++◌, flat_map, length, ap, arith}
use Rattle.std.specs.List.{range_with_len}
use Rattle.text_pieces.proofs.sinks.Taking.{takes_as, takes_then}
use Rattle.flow_reports.specs.code.Findings.{knowledge_of}
use Rattle.call_dots.specs.CallDots.{node}
use Rattle.call_dots.specs.code.Tables.{recursion_of}
use Rattle.call_dots.proofs.texts.write_all_nodes.Goals as goal

pub returns : goal.returns
returns g c =
    let program = c.args.shown.now.found.graph.now in
    let text : ℕ → List ℕ = node program (knowledge_of c.args.shown.now.found) (recursion_of c.args.shown.now) in
    let main : ℕ = c.main_of-main.result in
    let all : main - 0 ≡ main = omega arith in
    takes_as _ _ _ _ (takes_then _ _ _ _ _ (takes_then _ _ _ _ _ c.write_node.ensures c.write_nodes.ensures) c.write_nodes-2.ensures)
    (ap (λ n. text main ++ flat_map text (range_with_len 0 n)
    ++ flat_map text (range_with_len (main + 1) (c.count_of-end.result - (main + 1)))) all
    ∙ ap (λ end. text main ++ flat_map text (range_with_len 0 main) ++ flat_map text (range_with_len (main + 1) (end - (main + 1))))
    c.count_of-end.ensures
    ∙ ap (λ m. text m ++ flat_map text (range_with_len 0 m)
    ++ flat_map text (range_with_len (m + 1) (length program.procedures - (m + 1)))) c.main_of-main.ensures.number)
