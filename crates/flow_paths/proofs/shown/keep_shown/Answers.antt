use Rattle.std.proofs.Common.{◌≡◌, ◌∙◌, ◌+◌, ◌<◌, ℕ, Bool, List, [], ◌∷◌, ◌++◌, length, take, get_or, ap, sym}
use Rattle.std.specs.List.{filter}
use Rattle.std.proofs.lemmas.List.{take_more}
use Rattle.std.proofs.lemmas.List.Elements.{filter-append}
use Rattle.flow_reports.specs.declared.listed.PlacedRemark.{PlacedRemark}
use Rattle.flow_paths.specs.code.Doubted.{has_shown}
use Rattle.flow_paths.proofs.shown.keep_shown.Goals as goal

-- one more
next_kept : (test : PlacedRemark → Bool) (all : List PlacedRemark) (i : ℕ) (d : PlacedRemark) (old new : List PlacedRemark) → i < length all
    → old ≡ filter test (take i all) → new ≡ old ++ filter test (get_or all i d ∷ []) → new ≡ filter test (take (i + 1) all)
next_kept test all i d old new below before put =
    put
    ∙ ap (λ (xs : List PlacedRemark). xs ++ filter test (get_or all i d ∷ [])) before
    ∙ sym (filter-append test (take i all) (get_or all i d ∷ []))
    ∙ ap (filter test) (sym (take_more all i d below))

pub loop-placed-preserved : goal.loop-placed-preserved
loop-placed-preserved c =
    next_kept (has_shown c.args.shown) c.args.all.now c.loop-placed.placed-index _ _ _ c.loop-placed-test.true c.loop-placed.invariant
    c.in_ok-put_shown.ensures
