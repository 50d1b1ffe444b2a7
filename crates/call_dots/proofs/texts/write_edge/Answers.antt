use Rattle.std.proofs.Common.{◌++◌, ℕ, List, codes, decimal, ap}
use Rattle.text_pieces.proofs.sinks.Taking.{takes_as, takes_then}
use Rattle.call_dots.specs.CallDots.{back_look, call_words}
use Rattle.call_dots.proofs.texts.write_edge.Goals as goal

pub returns : goal.returns
returns g c =
    let edge = c.args.edge in
    let first : List ℕ = codes "  " ++ decimal edge.call.caller ++ codes " -> " ++ decimal edge.call.callee ++ codes " [label=\""
    ++ call_words c.args.shown.now.found.graph.now edge ++ codes "\"" in
    takes_as _ _ _ _ (takes_then _ _ _ _ _ (takes_then _ _ _ _ _ (takes_then _ _ _ _ _ (takes_then _ _ _ _ _ (takes_then _ _ _ _ _
    (takes_then _ _ _ _ _ (takes_then _ _ _ _ _ (takes_then _ _ _ _ _ c.write.ensures c.write_number.ensures) c.write-2.ensures)
    c.write_number-2.ensures) c.write-3.ensures) c.write_call_words.ensures) c.write-4.ensures) c.write_back_look.ensures) c.write-5.ensures)
    (ap (λ is. first ++ back_look is ++ codes "];\n") c.leads_back.ensures)
