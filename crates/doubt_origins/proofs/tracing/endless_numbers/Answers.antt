use Rattle.std.proofs.Common.{◌≡◌, ◌∷◌, [], ◌++◌, ℕ, Bool, true, false, get_or, if◌then◌else◌, append-nil, ap, ◌∙◌, sym}
use Rattle.std.specs.List.{filter, range_with_len}
use Rattle.flow_graph.proofs.lists.NumberListLemmas.{filter-range_more}
use Rattle.doubt_origins.proofs.tracing.endless_numbers.Goals as goal
use Rattle.doubt_origins.proofs.tracing.endless_numbers.Goals.{then-endless-point+in_ok-push, else-endless-point}

pub loop-point-preserved : goal.loop-point-preserved
loop-point-preserved c =
    let n : ℕ = c.loop-point.point in
    let is_marked : ℕ → Bool = λ point. get_or c.args.endless.now point false in
    elim c.if-endless-point.branch [
      | then-endless-point+in_ok-push w ↦
          let passes : is_marked n ≡ true = w.if-endless-point.true in
          ap (λ v. v.items) w.points-is
          ∙ w.in_ok-push.ensures.items
          ∙ ap (λ ps. ps ++ n ∷ []) c.loop-point.invariant
          ∙ ap (λ b. filter is_marked (range_with_len 0 n) ++ (if b then n ∷ [] else [])) (sym passes)
          ∙ sym (filter-range_more is_marked n)
      | else-endless-point w ↦
          let fails : is_marked n ≡ false = w.if-endless-point.false in
          ap (λ v. v.items) w.points-is
          ∙ c.loop-point.invariant
          ∙ sym (append-nil (filter is_marked (range_with_len 0 n)))
          ∙ ap (λ b. filter is_marked (range_with_len 0 n) ++ (if b then n ∷ [] else [])) (sym fails)
          ∙ sym (filter-range_more is_marked n)
    ]
