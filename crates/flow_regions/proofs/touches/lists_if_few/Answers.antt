use Rattle.std.proofs.Common.{◌<◌, ℕ, List, length, slice_index, ap, subst, sym, ◌∙◌}
use Rattle.flow_regions.specs.code.Lists.{AreLow, Has}
use Rattle.flow_regions.proofs.touches.lists_if_few.Goals as goal

pub returns : goal.returns
returns c =
    let lists = c.in_ok-lists.ensures in
    record {
      are = lists.lists;
      low = λ limit low. lists.low limit (subst (AreLow limit) (sym c.as_slice-2.ensures.value) low);
      has = λ key value (i, there, key_is, value_is).
          subst (λ k. Has c.in_ok-lists.lists k value) (ap (λ (l : List ℕ). slice_index l i) c.as_slice.ensures.value ∙ key_is)
          (subst (λ v. Has c.in_ok-lists.lists (slice_index c.as_slice.result.now i) v) (ap (λ (l : List ℕ). slice_index l i) c.as_slice-2.ensures.value ∙ value_is)
          (lists.has i (subst (λ (l : List ℕ). i < length l) (sym c.as_slice.ensures.value) there)));
    }
