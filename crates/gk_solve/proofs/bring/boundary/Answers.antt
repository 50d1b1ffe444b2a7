use Rattle.std.proofs.Common.{◌<◌, ◌+◌, ◌*◌, sym, inl, inr, length, get_or, set, arith, ap, ◌∙◌}
use Rattle.std.proofs.Math.ListN.{length-set}
use Rattle.std.proofs.lemmas.Bool.{cases_eq}
use Rattle.std.proofs.lemmas.List.{get_or-set_same, get_or-set_other}
use Rattle.bit_rows.specs.Words.{has_bit}
use Rattle.gk_solve.specs.Tables.Words.{place_boundary}
use Rattle.gk_solve.proofs.words.EffectLemmas.{boundary_of_word}
use Rattle.gk_solve.proofs.bring.boundary.Goals as goal

pub loop-w-preserved : goal.loop-w-preserved
loop-w-preserved g c =
    let within : c.loop-w.w < length c.loop-w.words = omega (arith, c.loop-w.invariant.count, c.loop-w-test.true) in
    let form = c.args.frame.now.problem.now in
    record {
      count = length-set c.loop-w.words c.loop-w.w c.boundary_word.result ∙ c.loop-w.invariant.count;
      done = λ w k below low. elim (cases_eq w c.loop-w.w) [
        | inl same ↦ ap (λ n. has_bit (get_or (set c.loop-w.words c.loop-w.w c.boundary_word.result) n 0) k) same
            ∙ (ap (λ n. has_bit n k) (get_or-set_same c.loop-w.words c.loop-w.w c.boundary_word.result 0 within)
            ∙ (boundary_of_word form (c.args.frame.now.first + c.loop-w.w) c.boundary_word.result k low c.boundary_word.ensures
            ∙ ap (λ n. place_boundary form (64 * (c.args.frame.now.first + n) + k)) (sym same)))
        | inr other ↦ ap (λ n. has_bit n k) (get_or-set_other c.loop-w.words c.loop-w.w w c.boundary_word.result 0 other)
            ∙ c.loop-w.invariant.done w k (omega (arith, below, other)) low
      ];
    }
