use Rattle.std.proofs.Common.{◌%◌, ◌/◌, ℕ, ap, arith}
use Rattle.std.proofs.lemmas.Nat.{one_shl}
use Rattle.flow_queries.specs.declared.query.Query.{Query}
use Rattle.report_answers.proofs.report_queries.query_for.Goals as goal

pub returns : goal.returns
returns c =
    ap (λ (bits : ℕ). let query : Query = record { analysis = c.args.analysis; point = c.args.point; word = c.args.bit / 64; bits = bits } in query)
    (one_shl (c.args.bit % 64) 64 (omega arith))
