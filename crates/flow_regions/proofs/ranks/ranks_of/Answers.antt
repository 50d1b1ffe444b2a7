use Rattle.std.proofs.Common.{◌≡◌, ℕ, List, ◌++◌, length, take, drop, sym, ap, subst, ◌∙◌, arith}
use Rattle.std.proofs.lemmas.Grind.{common_steps}
use Rattle.flow_links.specs.Shapes.{directed_shape}
use Rattle.flow_regions.specs.code.Ranks.{AreRanked}
use Rattle.flow_regions.proofs.ranks.ranks_of.Goals as goal

-- a vector that was written as a slice
written_over : {A : Type 0} (len : ℕ) (new old : List A) → len ≡ length old → length new ≡ length old → take len (new ++ drop (length new) old) ≡ new
written_over len new old is_len same = grind (arith, common_steps)

pub returns-then-settle-clause-ranked : goal.returns-then-settle-clause-ranked
returns-then-settle-clause-ranked c =
    subst (AreRanked (directed_shape c.args.links.now))
    (sym (written_over c.in_ok-ranks.ranks.len c.settle.new.ranks c.in_ok-ranks.ranks.items c.in_ok-ranks.ranks.ok.0
    (c.settle.ensures.count ∙ ap length c.as_mut_slice.ensures.value))) (c.settle.ensures.ranked c.if-settle.true)
