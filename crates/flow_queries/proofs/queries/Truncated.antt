-- The first of the queries, with their answers.
use Rattle.std.proofs.Common.{◌≡◌, ℕ, zero, suc, ◌<◌, List, [], ◌∷◌, Some, slice_get, take, sym, subst, arith}
use Rattle.std.proofs.lemmas.List.{get_or-take, length-take}
use Rattle.flow_queries.specs.Queries.{AreAnswers, IsAnswerTo, Replies}
use Rattle.flow_queries.specs.declared.query.Query.{Query}
use Rattle.tac_program.specs.Programs.{Program}

-- a query of the first ones is one of all
pub taken : (count : ℕ) (queries : List Query) (q : ℕ) (query : Query) → slice_get (take count queries) q ≡ Some query → (slice_get queries q ≡ Some query) × (q < count)
taken zero queries q query there = absurd (cc there)
taken (suc count) [] q query there = absurd (cc there)
taken (suc count) (one ∷ queries) zero query there = (there, omega arith)
taken (suc count) (one ∷ queries) (suc q) query there = let rest = taken count queries q query there in (rest.0, omega (arith, rest.1))

-- the first queries
abbrev pub truncated : Replies → ℕ → Replies
truncated replies count = record {
  queries = take count replies.queries;
  words = take count replies.words;
  forward = replies.forward;
  backward = replies.backward;
}

pub truncated_answers : (program : Program) (replies : Replies) (count : ℕ) → AreAnswers program replies
    → AreAnswers program (truncated replies count)
truncated_answers program replies count are = record {
  count = omega (arith, length-take count replies.words, length-take count replies.queries, are.count);
  sets = λ q query there.
      let whole = taken count replies.queries q query there in
      subst (IsAnswerTo program query) (sym (get_or-take count replies.words q 0 whole.1)) (are.sets q query whole.0);
  points = are.points;
  paths = are.paths;
}
