use Rattle.std.proofs.Common.{◌≡◌, ◌++◌, ◌∙◌, ℕ, List, true, false, nat_eq, codes, decimal, if◌then◌else◌, ap, sym, arith}
use Rattle.text_pieces.proofs.sinks.Taking.{takes_as, takes_then}
use Rattle.flow_texts.specs.Tables.{line_at}
use Rattle.call_dots.proofs.texts.write_call_words.Goals as goal

pub returns-then-edge-eq1 : goal.returns-then-edge-eq1
returns-then-edge-eq1 g c =
    let is : nat_eq c.args.edge.count 1 ≡ true = (let same = c.if-edge-eq1.true in grind arith) in
    let many : List ℕ = decimal c.args.edge.count ++ codes " calls" in
    takes_as _ _ _ _ (takes_then _ _ _ _ _ c.write.ensures c.write_number.ensures)
    (ap (λ n. codes "line " ++ decimal n) c.line.ensures
    ∙ ap (λ b. if b then codes "line " ++ decimal (line_at c.args.graph.now c.args.edge.call.site) else many) (sym is))

pub returns : goal.returns
returns g c =
    let is : nat_eq c.args.edge.count 1 ≡ false = (let differ = c.if-edge-eq1.false in grind arith) in
    let one : List ℕ = codes "line " ++ decimal (line_at c.args.graph.now c.args.edge.call.site) in
    takes_as _ _ _ _ (takes_then _ _ _ _ _ c.write_count.ensures c.write-2.ensures)
    (ap (λ b. if b then one else decimal c.args.edge.count ++ codes " calls") (sym is))
