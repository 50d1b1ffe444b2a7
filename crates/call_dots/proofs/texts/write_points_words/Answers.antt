use Rattle.std.proofs.Common.{◌≡◌, ◌++◌, true, false, nat_eq, codes, decimal, if◌then◌else◌, ap, sym, arith}
use Rattle.text_pieces.proofs.sinks.Taking.{takes_as, takes_then}
use Rattle.call_dots.proofs.texts.write_points_words.Goals as goal

pub returns-then-count-eq1 : goal.returns-then-count-eq1
returns-then-count-eq1 g c =
    let is : nat_eq c.args.count 1 ≡ true = (let same = c.if-count-eq1.true in grind arith) in
    takes_as _ _ _ _ (takes_then _ _ _ _ _ c.write_number.ensures c.write.ensures)
    (ap (λ b. decimal c.args.count ++ (if b then codes " point" else codes " points")) (sym is))

pub returns-else-count-eq1 : goal.returns-else-count-eq1
returns-else-count-eq1 g c =
    let is : nat_eq c.args.count 1 ≡ false = (let differ = c.if-count-eq1.false in grind arith) in
    takes_as _ _ _ _ (takes_then _ _ _ _ _ c.write_number.ensures c.write-else-count-eq1.ensures)
    (ap (λ b. decimal c.args.count ++ (if b then codes " point" else codes " points")) (sym is))
