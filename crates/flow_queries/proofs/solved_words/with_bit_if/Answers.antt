use Rattle.std.proofs.Common.{◌≡◌, ◌*◌, ◌%◌, ◌^◌, Bool, ◌&&◌, ◌||◌, nat_eq, sym, subst}
use Rattle.std.specs.Prelude.{bit_or}
use Rattle.bit_rows.specs.Words.{has_bit}
use Rattle.flow_queries.proofs.queries.Gathered.{bit_added, bit_not_added}
use Rattle.flow_queries.proofs.solved_words.with_bit_if.Goals as goal

pub returns-then-there : goal.returns-then-there
returns-then-there c = λ k small.
    subst (λ (b : Bool). has_bit (bit_or c.args.word (1 * 2 ^ c.args.place % 2 ^ 64)) k ≡ (has_bit c.args.word k || (nat_eq k c.args.place && b)))
    (sym c.if-there.true) (bit_added c.args.word c.args.place k c.requires)

pub returns-else-there : goal.returns-else-there
returns-else-there c = λ k small.
    subst (λ (b : Bool). has_bit c.args.word k ≡ (has_bit c.args.word k || (nat_eq k c.args.place && b))) (sym c.if-there.false)
    (bit_not_added c.args.word c.args.place k)
