use Rattle.std.proofs.Common.{◌≡◌, ◌++◌, List, ℕ, codes, decimal, append_assoc}
use Rattle.text_pieces.proofs.sinks.Taking.{takes_as, takes_then}
use Rattle.json_parts.specs.JsonParts.{heading_object}
use Rattle.json_parts.proofs.objects.write_heading.Goals as goal

joined : (a p b q c d e : List ℕ) → (a ++ p) ++ (b ++ q) ++ c ++ d ++ e ≡ a ++ p ++ b ++ q ++ c ++ d ++ e
joined a p b q c d e = simp append_assoc

pub returns : goal.returns
returns g c =
    takes_as _ _ _ (heading_object c.args.digest.now c.args.share.count c.args.share.part)
    (takes_then _ _ _ _ _ (takes_then _ _ _ _ _ (takes_then _ _ _ _ _ (takes_then _ _ _ _ _ c.write_numbered.ensures c.write_numbered-2.ensures)
    c.write.ensures) c.write-2.ensures) c.write-3.ensures)
    (joined (codes "{\"type\":\"part\",\"version\":1,\"part\":") (decimal c.args.share.part) (codes ",\"parts\":") (decimal c.args.share.count)
    (codes ",\"digest\":\"") c.args.digest.now (codes "\"}\n"))
