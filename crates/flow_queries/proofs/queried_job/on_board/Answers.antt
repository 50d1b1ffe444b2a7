use Rattle.std.proofs.Common.{◌≡◌, ◌/◌, length, rules, arith, subst, sym}
use Rattle.flow_queries.specs.code.Cuts.{AreApart}
use Rattle.std.proofs.lemmas.Option.{slice_get_within}
use Rattle.flow_queries.proofs.threads.Sent.{queried_cross}
use Rattle.flow_queries.proofs.queried_job.on_board.Goals as goal

pub on_board-requires-send-W : goal.on_board-requires-send-W
on_board-requires-send-W c = λ κs lives. search queried_cross depth 60

pub on_board-requires-send-S : goal.on_board-requires-send-S
on_board-requires-send-S c = λ κs lives. search queried_cross depth 60

pub on_board-requires-sync-W : goal.on_board-requires-sync-W
on_board-requires-sync-W c = λ κs lives. search queried_cross depth 60

pub on_board-requires-sync-S : goal.on_board-requires-sync-S
on_board-requires-sync-S c = λ κs lives. search queried_cross depth 60

pub open-requires-clause-within : goal.open-requires-clause-within
open-requires-clause-within c = λ point bit want.
    let there = slice_get_within c.args.queried.order (bit / 64) want.query want.there in
    let one : length c.in_ok-flags.flags.items ≡ 1 = search rules in
    (omega (arith, want.only, one), omega (arith, there, c.requires.bits))

pub on_board-requires-after_bounds : goal.on_board-requires-after_bounds
on_board-requires-after_bounds c = λ κs lives. record {
  wanted = c.in_ok-board.ensures.wanted;
  one = search rules;
  words = search rules;
  apart = subst (AreApart c.args.queried.order) (sym c.in_ok-board.ensures.cut) c.requires.apart;
}
