use Rattle.std.proofs.Common.{◌≡◌, ◌++◌, List, ℕ, codes, decimal, append_assoc}
use Rattle.text_pieces.proofs.sinks.Taking.{takes_as, takes_then}
use Rattle.flow_parts.specs.Parts.{heading_line}
use Rattle.flow_parts.proofs.parts.write_heading.Goals as goal

joined : (a p b q c d e : List ℕ) → (a ++ p) ++ (b ++ q) ++ c ++ d ++ e ≡ a ++ p ++ b ++ q ++ c ++ d ++ e
joined a p b q c d e = simp append_assoc

pub returns : goal.returns
returns g c =
    takes_as _ _ _ (heading_line c.args.digest.now c.args.share.count c.args.share.part)
    (takes_then _ _ _ _ _ (takes_then _ _ _ _ _ (takes_then _ _ _ _ _ (takes_then _ _ _ _ _ c.write_numbered.ensures c.write_numbered-2.ensures)
    c.write.ensures) c.write-2.ensures) c.write-3.ensures)
    (joined (codes "part ") (decimal c.args.share.part) (codes " of ") (decimal c.args.share.count) (codes " of ") c.args.digest.now (codes "\n"))
