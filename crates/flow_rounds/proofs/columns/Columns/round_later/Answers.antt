use Rattle.std.proofs.Common.{rules, ◌≡◌, ◌+◌, ◌<◌, ◌∙◌, [], ℕ, suc, Bool, List, ap, arith, length, refl, slice_index_or, subst, sym}
use Rattle.std.proofs.lemmas.List.{get_or_read_under}
use Rattle.flow_graph.specs.Universes.{bits}
use Rattle.flow_rounds.specs.Rounds.{after_round}
use Rattle.flow_rounds.specs.Steps.{problem_at, set_after}
use Rattle.flow_rounds.specs.code.Frames.{TellsColumn, iteration_of}
use Rattle.flow_rounds.proofs.lists.Columns.{each_more}
use Rattle.flow_rounds.proofs.columns.Columns.round_later.Goals as goal

pub loop-bit-preserved : goal.loop-bit-preserved
loop-bit-preserved c =
    let P : ℕ → List Bool → Type 0 = (λ bit column. (set : ℕ → Bool) → TellsColumn c.args.frame.now.points set
    (slice_index_or c.args.self.now bit [])
    → TellsColumn c.args.frame.now.points (after_round (problem_at (iteration_of c.args.frame.now) bit) c.args.frame.now.order set) column) in
    let whole : c.self.inside.columns.items ≡ c.args.self.now = search rules in
    let below : c.loop-bit.bit < length c.args.self.now = omega (arith, c.loop-bit-test.true, c.bits-bit-end.ensures, c.requires.count) in
    let same : c.as_slice.result.now ≡ slice_index_or c.args.self.now c.loop-bit.bit [] =
    c.as_slice.ensures ∙ get_or_read_under c.args.self.now c.loop-bit.bit (length c.args.self.now) c.index-column.result.now []
    (c.index-column.ensures ∙ ap (λ (xs : List (List Bool)). slice_index_or xs c.loop-bit.bit c.index-column.result.now) whole) below refl in
    subst (λ (columns : List (List Bool)). (length columns ≡ c.loop-bit.bit + 1) × ((bit : ℕ) → bit < c.loop-bit.bit + 1 → (set : ℕ → Bool)
    → TellsColumn c.args.frame.now.points set (slice_index_or c.args.self.now bit [])
    → TellsColumn c.args.frame.now.points (after_round (problem_at (iteration_of c.args.frame.now) bit) c.args.frame.now.order set)
    (slice_index_or columns bit []))) (sym c.in_ok-push.ensures.items)
    (each_more P c.loop-bit.columns.items _ c.loop-bit.bit c.loop-bit.invariant.0 c.loop-bit.invariant.1
    (λ set tells. c.in_ok-next_column.ensures set (subst (λ column. TellsColumn c.args.frame.now.points set column) (sym same) tells)))

pub returns : goal.returns
returns c rounds are =
    let all : c.loop-bit.bit ≡ bits c.args.frame.now.program c.args.frame.now.analysis =
    omega (arith, c.loop-bit-test.false, c.loop-bit.auto.bit-end, c.bits-bit-end.ensures) in
    let more : suc rounds ≡ rounds + 1 = omega arith in
    record {
      count = c.loop-bit.invariant.0 ∙ all;
      each = λ bit below. subst (λ n. TellsColumn c.args.frame.now.points (λ point. set_after (iteration_of c.args.frame.now) n point bit)
          (slice_index_or c.loop-bit.columns.items bit [])) more
          (c.loop-bit.invariant.1 bit (omega (arith, below, all)) (λ point. set_after (iteration_of c.args.frame.now) rounds point bit)
          (are.each bit below));
    }
