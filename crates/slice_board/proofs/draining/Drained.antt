-- How far a worker is, and the passes of two that are done.
use Rattle.std.proofs.Common.{◌≡◌, ℕ, ◌+◌, ◌-◌, ◌*◌, ◌<◌, Option, Some, None, arith, refl, ap}
use Rattle.slice_board.proofs.words.Sums.{times-append}
use Rattle.slice_board.specs.Boards.{BoardState, slice_count}
use Rattle.slice_board.specs.Passes.{PassState, joined}
use Rattle.slice_board.specs.Teams.{IsDrained, Works}

-- 1 where a slice is held
abbrev pub held_count : Option ℕ → ℕ
held_count (Some slice) = 1
held_count None = 0

module _ {T : Type 0} where
  -- how much a pass has still to do: what it holds, and what it has not tried
  abbrev pub left_of : BoardState T → PassState T → ℕ
  left_of board pass = 2 * (slice_count board.cut - pass.next) + held_count pass.held

  pub works_less : (wants : T → ℕ → ℕ → Type 0) (board : BoardState T) (old new : PassState T) (slice : ℕ)
      → Works wants board old new slice → left_of board new < left_of board old
  works_less wants board old new slice works = by_held old.held refl where
    there : slice < slice_count board.cut
    there = works.there

    by_held : (held : Option ℕ) → old.held ≡ held → left_of board new < left_of board old
    by_held (Some held) is =
        let resumes = (works.taken.was_held held is).1 in
        omega (arith, resumes.next, ap held_count works.free, ap held_count is)
    by_held None is =
        let draws = works.taken.drawn is in
        omega (arith, there, draws.behind, draws.next, ap held_count works.free, ap held_count is)

  pub joined_drained : (board : BoardState T) (first second : PassState T)
      → IsDrained board first → IsDrained board second → IsDrained board (joined first second)
  joined_drained board first second one two = record {
    of = record { table = one.of.table; about = one.of.about };
    free = cc (one.free, two.free);
    finished = λ slice. omega (
      arith,
      times-append slice first.finished second.finished,
      times-append slice first.claimed second.claimed,
      one.finished slice,
      two.finished slice,
    );
    all_claimed = λ slice there. omega (
      arith,
      times-append slice first.claimed second.claimed,
      times-append slice first.found second.found,
      one.all_claimed slice there,
    );
  }
