use Rattle.std.proofs.Common.{◌*◌, ◌<◌, ◌≤◌, ℕ, inl, inr, arith}
use Rattle.busy_bounds.proofs.busy_bounds.BusyBounds.last_word.Goals as goal

pub returns-then-last-first : goal.returns-then-last-first
returns-then-last-first c = λ bit low high small table. elim (c.sets_at-here.ensures.one bit small table) [
  | inl here ↦ c.end_in.ensures.none bit here (omega (arith, low, c.later-last.ensures.one, c.if-last-first.true)) high
  | inr brought ↦ c.end_in-2.ensures.none bit brought (omega (arith, low, c.later-last.ensures.two, c.if-last-first.true)) high
]

pub returns : goal.returns
returns c =
    let last : ℕ = c.later-last.result in
    let more : c.args.first < last = omega (arith, c.end_in.ensures.past, c.later-last.ensures.one, c.if-last-first.false) in
    let within : last ≤ c.args.end = elim c.later-last.ensures.is [
      | inl first ↦ omega (arith, first, c.end_in.ensures.before)
      | inr second ↦ omega (arith, second, c.end_in-2.ensures.before)
    ] in
    record {
      past = omega (arith, more);
      before = omega (arith, more, within);
      none_behind = λ bit low high small table.
          let above : 64 * last ≤ bit = omega (arith, low, more) in
          elim (c.sets_at-here.ensures.one bit small table) [
            | inl here ↦ c.end_in.ensures.none bit here (omega (arith, above, c.later-last.ensures.one)) high
            | inr brought ↦ c.end_in-2.ensures.none bit brought (omega (arith, above, c.later-last.ensures.two)) high
          ];
    }
