use Rattle.std.proofs.Common.{◌≡◌, ℕ, Bool, ◌&&◌, List, [], ◌∷◌, filter, map, refl, ap, ap₂, ◌∙◌, arith}
use Rattle.std.specs.List.{range_with_len}
use Rattle.flow_graph.specs.Universes.{bits}
use Rattle.flow_graph.specs.declared.analysis.Analysis.{Analysis}
use Rattle.flow_texts.specs.Tables.{bit_text}
use Rattle.point_sets.specs.Changes.{changed_from}
use Rattle.point_sets.specs.Sets.{is_bit_shown, shown_bits}
use Rattle.point_sets.specs.code.Changes.{changed, old_set, told_by}
use Rattle.point_sets.specs.declared.change.Change.{Change}
use Rattle.tac_program.specs.Programs.{Program}
use Rattle.text_pieces.specs.code.Lists.{some_stand}
use Rattle.dot_texts.proofs.changes.has_changed.Goals as goal

-- there are as many texts as numbers
some_texts : {A B : Type 0} (f : A → B) (xs : List A) → some_stand xs ≡ some_stand (map f xs)
some_texts f [] = refl
some_texts f (x ∷ xs) = refl

pub has_any-requires-clause-bits : goal.has_any-requires-clause-bits
has_any-requires-clause-bits c =
    let analysis : Analysis = c.args.change.now.new.table.now.analysis in
    let count = c.bits-bits.ensures.count ∙ ap (bits c.args.shown.now.found.graph.now) c.analysis.ensures in
    let all = c.requires.change.new.bits ∙ ap (λ (p : Program). bits p analysis) c.requires.graph in
    omega (arith, count, all)

pub returns : goal.returns
returns c =
    let program : Program = c.args.shown.now.found.graph.now in
    let change : Change = c.args.change.now in
    let came : Bool = c.args.came in
    let analysis : Analysis = change.new.table.now.analysis in
    let hides : Bool = c.args.shown.now.view.look.hides_entry in
    let told : Program → Bool → ℕ → Bool = λ p h bit. changed change came bit && is_bit_shown p analysis h bit in
    let set : ℕ → Bool = changed_from came (old_set change) (told_by change.new) in
    c.has_any.ensures
    ∙ ap₂ (λ (p : Program) (h : Bool). some_stand (filter (told p h) (range_with_len 0 c.bits-bits.result))) c.requires.graph c.requires.hides
    ∙ ap (λ n. some_stand (filter (told program hides) (range_with_len 0 n))) (c.bits-bits.ensures.count ∙ ap (bits program) c.analysis.ensures)
    ∙ some_texts (bit_text program analysis) (shown_bits program analysis hides set)
