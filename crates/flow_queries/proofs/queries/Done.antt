-- What is posted of queries.
use Rattle.std.proofs.Common.{◌≡◌, ◌∙◌, ℕ, ◌+◌, ◌*◌, ◌/◌, ◌%◌, ◌<◌, ◌≤◌, true, Some, slice_get, refl, sym, ap, subst, arith}
use mathlib.Core.Logic.{dite}
use native.Mathlib.Decide.{ℕ_discrete}
use Rattle.bit_rows.specs.Words.{has_bit}
use Rattle.flow_queries.specs.code.Directions.{selection_of}
use Rattle.flow_queries.specs.code.Boards.{AreDone, Queried, IsWanted}
use Rattle.flow_queries.specs.code.Solving.{IsAskedWord}
use Rattle.flow_queries.specs.declared.query.Query.{Query}
use Rattle.flow_team.specs.Sets.{IsInColumns}
use Rattle.slice_board.specs.Teams.{PostsMore}
use Rattle.slice_board.specs.Passes.{PassState, IsLogged}
use Rattle.slice_board.proofs.words.Sums.{marked_still}

module _ (queried : Queried) (q : ℕ) (query : Query) (word : ℕ) (there : slice_get queried.order q ≡ Some query)
    (tells : IsAskedWord queried.program query word) where
  -- the word has what is wanted of a query
  pub query_has : (bit : ℕ) → IsWanted queried 0 bit → bit / 64 ≡ q → has_bit word (bit % 64) ≡ true
  query_has bit want at =
      let both : Some want.query ≡ Some query = sym want.there ∙ ap (slice_get queried.order) at ∙ there in
      let same : want.query ≡ query = cc both in
      let asked = subst (λ (a : Query). has_bit a.bits (bit % 64) ≡ true) same want.asked in
      let some = subst (λ (a : Query). IsInColumns (selection_of queried.program a.analysis) a.point (64 * a.word + bit % 64)) same want.some in
      (tells (bit % 64) (omega arith)).1 (asked, some)

  -- and nothing else
  pub query_wants : (k : ℕ) → k < 64 → has_bit word k ≡ true → IsWanted queried 0 (64 * q + k)
  query_wants k small has =
      let found = (tells k small).0 has in
      let at : q ≡ (64 * q + k) / 64 = omega (arith, small) in
      let place : k ≡ (64 * q + k) % 64 = omega (arith, small) in
      record {
        only = refl;
        query = query;
        there = ap (slice_get queried.order) (sym at) ∙ there;
        asked = ap (has_bit query.bits) (sym place) ∙ found.0;
        some = subst (λ (n : ℕ). IsInColumns (selection_of queried.program query.analysis) query.point (64 * query.word + n)) place found.1;
      }

module _ (queried : Queried) where
  pub done_still : {T : Type 0} → (done : ℕ → Type 0) (old new : PassState T) → PostsMore old new → AreDone queried done old.posted
      → AreDone queried done new.posted
  done_still done old new posts all bit want at =
      subst (λ (pass : PassState _). IsLogged pass.posted 0 bit) (sym posts.same) (marked_still old.posted posts.more 0 bit (all bit want at))

  -- one query more
  pub done_more : {T : Type 0} → (from q : ℕ) (old new : PassState T) → PostsMore old new
      → AreDone queried (λ j. (from ≤ j) × (j < q)) old.posted → AreDone queried (λ j. j ≡ q) new.posted
      → AreDone queried (λ j. (from ≤ j) × (j < q + 1)) new.posted
  done_more from q old new posts before here bit want at = dite (ℕ_discrete (bit / 64) q)
      (λ same. here bit want same)
      (λ apart. done_still (λ j. (from ≤ j) × (j < q)) old new posts before bit want (at.0, omega (arith, apart, at.1)))
