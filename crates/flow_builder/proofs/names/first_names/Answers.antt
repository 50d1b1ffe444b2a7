use Rattle.std.proofs.Common.{◌≡◌, ◌∙◌, ℕ, ◌<◌, [], ◌∷◌, ◌++◌, List, length, get_or, take, sym, ap, arith}
use Rattle.std.proofs.lemmas.List.{take_more}
use Rattle.std.proofs.lemmas.Option.{get_or_from_slice_get}
use Rattle.tac_program.specs.Names.{noted}
use Rattle.flow_builder.proofs.Lists.{new_of_differing, noted_new}
use Rattle.flow_builder.proofs.names.first_names.Goals as goal

pub loop-number-preserved : goal.loop-number-preserved
loop-number-preserved c =
    let names : List (List ℕ) = c.args.table.now in
    let n : ℕ = c.loop-number.number in
    let name : List ℕ = c.name.result.now in
    let below : n < length names = omega (arith, c.loop-number-test.true, c.requires.few) in
    let is : get_or names n name ≡ name = get_or_from_slice_get names n name name c.name.ensures in
    c.in_ok-insert_full.ensures.noted
    ∙ ap (λ known. noted known name) c.loop-number.invariant
    ∙ noted_new (take n names) name (new_of_differing names n name below is c.requires.differ)
    ∙ ap (λ x. take n names ++ x ∷ []) (sym is)
    ∙ sym (take_more names n name below)
