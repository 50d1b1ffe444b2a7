use Rattle.std.proofs.Common.{◌≡◌, ◌∷◌, sym, subst, Some}
use Rattle.std.proofs.lemmas.Bool.{eqb-true}
use Rattle.tac_lines.specs.Tokens.{gap, longest}
use Rattle.tac_lines.proofs.tokens.Fronts.{space_at, line_feed_at}
use Rattle.tac_lines.proofs.piece.is_plain_blank.Goals as goal

pub returns-then-byte-eq32 : goal.returns-then-byte-eq32
returns-then-byte-eq32 c is rest = subst (λ b. longest (b ∷ rest) ≡ Some (1, gap)) (sym c.if-byte-eq32.true) (space_at rest)

pub returns-else-byte-eq32 : goal.returns-else-byte-eq32
returns-else-byte-eq32 c is rest = subst (λ b. longest (b ∷ rest) ≡ Some (1, gap)) (sym (eqb-true c.args.byte 10 is)) (line_feed_at rest)
