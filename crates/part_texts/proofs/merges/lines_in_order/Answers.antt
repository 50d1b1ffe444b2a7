use Rattle.std.proofs.Common.{rules, ◌≡◌, ◌++◌, [], ◌∙◌, ap, sym, map, flat_map, drop, append-nil}
use Rattle.std.specs.List.Sorted.{IsNonDecreasingBy, IsStableByKey}
use Rattle.std.specs.Ordering.{nat_cmp}
use Rattle.std.proofs.Math.ListN.{drop_of_length-le}
use Rattle.std.proofs.lemmas.List.Sorted.{IsNonDecreasingBy-from_sort_by_key, answers_always}
use Rattle.part_texts.specs.Lines.{place}
use Rattle.part_texts.specs.Orders.{in_order_by}
use Rattle.part_texts.specs.code.ReadParts.{line_of, part_in}
use Rattle.part_texts.specs.declared.line.PartLine.{PartLine}
use Rattle.part_texts.proofs.OrderLists.{map_in_order, sorted_is}
use Rattle.part_texts.proofs.merges.lines_in_order.Goals as goal

pub returns : goal.returns
returns c =
    let up : IsNonDecreasingBy (λ (line : PartLine). place (line_of line)) c.sort_by_key.new.self.items =
    IsNonDecreasingBy-from_sort_by_key (λ line. place (line_of line)) _ c.in_ok-sort_by_key.ensures.sorted (λ a r q k. search rules) in
    let stable : IsStableByKey (λ (line : PartLine). place (line_of line)) nat_cmp c.loop-part.lines.items c.sort_by_key.new.self.items =
    c.in_ok-sort_by_key.ensures.stable (λ line. place (line_of line)) (answers_always _ _ _ (λ f a r q k. search rules)) in
    let whole : map line_of c.loop-part.lines.items ≡ flat_map (λ p. p.lines) (map part_in c.args.parts.now) =
    sym (append-nil _) ∙ ap (λ ps. map line_of c.loop-part.lines.items ++ flat_map (λ p. p.lines) (map part_in ps))
    (sym (drop_of_length-le _ c.loop-part-test.false))
    ∙ c.loop-part.invariant in
    ap (map line_of) (sorted_is (λ line. place (line_of line)) c.loop-part.lines.items _ up stable)
    ∙ map_in_order place line_of c.loop-part.lines.items ∙ ap (in_order_by place) whole
