use Rattle.std.proofs.Common.{◌≡◌, ◌++◌, [], ℕ, List, false, nat_eq, codes, decimal, if◌then◌else◌, ap, sym, arith}
use Rattle.text_pieces.proofs.sinks.Taking.{takes_as, takes_then}
use Rattle.call_dots.proofs.texts.write_count_line.Goals as goal

pub returns : goal.returns
returns g c =
    let text : List ℕ = c.args.words.now ++ codes ": " ++ decimal c.args.count ++ codes "\\l" in
    let some : nat_eq c.args.count 0 ≡ false = (let differ = c.if-count-eq0.false in grind arith) in
    takes_as _ _ _ _ (takes_then _ _ _ _ _ (takes_then _ _ _ _ _ (takes_then _ _ _ _ _ c.write.ensures c.write-2.ensures) c.write_count.ensures)
    c.write-3.ensures) (ap (λ is. if is then [] else text) (sym some))
