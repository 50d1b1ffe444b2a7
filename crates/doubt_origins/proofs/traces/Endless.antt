-- Points without a valid path to the end, by what answers tell
use Rattle.std.proofs.Common.{◌≡◌, ◌↔◌, ◌∙◌, ℕ, ◌<◌, Bool, true, false, not, List, map, get_or, length, refl, sym, ap, arith}
use Rattle.std.proofs.lemmas.List.FromFn.{get_or-map-range_with_len, length-map-range_with_len}
use Rattle.tac_program.specs.Programs.{Program}
use Rattle.flow_graph.specs.Analyses.{shape_of}
use Rattle.flow_graph.specs.Paths.{HasBackwardPath}
use Rattle.flow_graph.specs.Points.{points, point_count}
use Rattle.doubt_origins.specs.code.Tracing.{TellEndless}

pub tell_endless : (program : Program) (flag : ℕ → Bool) (endless : List Bool)
    → ((point : ℕ) → point < point_count program → (flag point ≡ true) ↔ HasBackwardPath (shape_of program) point)
    → endless ≡ map (λ point. not (flag point)) (points program) → TellEndless program endless
tell_endless program flag endless tells is = record {
  count = ap length is ∙ length-map-range_with_len (λ point. not (flag point)) 0 (point_count program);
  each = λ point below. (
    λ marked finish. not_both (flag point) ((tells point below).1 finish) (sym (mark point below) ∙ marked),
    λ none. mark point below ∙ unmarked point below none (flag point) refl,
  );
}
  where
    mark : (point : ℕ) → point < point_count program → get_or endless point false ≡ not (flag point)
    mark point below =
        ap (λ ms. get_or ms point false) is
        ∙ get_or-map-range_with_len (λ p. not (flag p)) 0 (point_count program) point point false below (omega arith)

    not_both : (b : Bool) → b ≡ true → not b ≡ true → ⊥
    not_both true on off = absurd (cc off)
    not_both false on off = absurd (cc on)

    unmarked : (point : ℕ) → point < point_count program → ¬ (HasBackwardPath (shape_of program) point) → (b : Bool) → flag point ≡ b → not b ≡ true
    unmarked point below none true has = absurd (none ((tells point below).0 has))
    unmarked point below none false has = refl
