use Rattle.std.proofs.Common.{◌≡◌, ◌+◌, ◌*◌, ◌&&◌, ◌||◌, nat_lt, ap, ap₂, ◌∙◌, sym, arith}
use Rattle.bit_rows.proofs.words.WordBits.{has_bit-or, has_bit-zero}
use Rattle.gen_kill.specs.Selections.{column_boundary, column_count}
use Rattle.gen_kill.specs.code.Effects.{marks}
use Rattle.gen_kill.proofs.bits.Marks.{none_below, places_below, place_behind}
use Rattle.gen_kill.proofs.problem.Problem.boundary_word.Goals as goal

pub loop-place-init : goal.loop-place-init
loop-place-init c k within = has_bit-zero k ∙ sym (none_below k
    (nat_lt (64 * c.args.word + k) (column_count c.args.self.now) && column_boundary c.args.self.now (64 * c.args.word + k)))

pub loop-place-preserved : goal.loop-place-preserved
loop-place-preserved c k within =
    has_bit-or c.loop-place.result c.mark_word-result.result k
    ∙ ap₂ ◌||◌ (c.loop-place.invariant k within)
    (c.mark_word-result.ensures k within
    ∙ ap (marks c.boundary_mark.result) (let e : 64 * 0 + k ≡ k = omega arith in e)
    ∙ c.boundary_mark.ensures k)
    ∙ places_below k c.loop-place.place
    (nat_lt (64 * c.args.word + k) (column_count c.args.self.now) && column_boundary c.args.self.now (64 * c.args.word + k))

pub returns : goal.returns
returns c k within =
    c.loop-place.invariant k within
    ∙ place_behind k c.loop-place.place 64
    (nat_lt (64 * c.args.word + k) (column_count c.args.self.now) && column_boundary c.args.self.now (64 * c.args.word + k)) within (omega arith)
