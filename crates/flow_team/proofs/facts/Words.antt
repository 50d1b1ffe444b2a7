-- What solved words say of the sets that are wanted.
use Rattle.std.proofs.Common.{◌↔◌, ℕ, ◌+◌, ◌*◌, ◌<◌, ◌≤◌, arith}
use Rattle.gk_solve.specs.Solved.{AreMeetWords, IsSliceOf, SliceTable, TellWords}
use Rattle.flow_team.specs.Sets.{IsInColumns}
use Rattle.gen_kill.specs.Selections.{Selection}
use Rattle.flow_team.specs.code.Posting.{TellPoint}

-- the words of the meet over valid paths tell the selected bits
pub words_tell_sets : (selection : Selection) (slice : SliceTable) → IsSliceOf selection slice → AreMeetWords selection slice → TellWords (IsInColumns selection) slice
words_tell_sets selection slice of meet point word k there from until small =
    let is = meet point word k there from until small in (
      (λ has. let solved = is.0 has in (solved.0, solved.1, (omega (arith, of.points, there), omega (arith, of.within, solved.1), solved.2))),
      (λ wanted. is.1 (wanted.0, wanted.1, wanted.2.2)),
    )

-- and so what is wanted at a point of a board
pub tell_point : (wanted : ℕ → ℕ → Type 0) (selection : Selection) (slice : SliceTable) (first count point : ℕ)
    → ((p bit : ℕ) → wanted p bit ↔ ((p < count) × IsInColumns selection (first + p) bit))
    → first + count ≤ slice.points → point < count → TellWords (IsInColumns selection) slice → TellPoint wanted slice point (first + point)
tell_point wanted selection slice first count point wants most there tell word k from until small =
    let is = tell (first + point) word k (omega (arith, most, there)) from until small in
    let same = wants point (64 * word + k) in (
      (λ has. let solved = is.0 has in (solved.0, solved.1, same.1 (there, solved.2))),
      (λ want. is.1 (want.0, want.1, (same.0 want.2).1)),
    )
