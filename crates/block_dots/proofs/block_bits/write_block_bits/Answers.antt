use Rattle.std.proofs.Common.{◌≡◌, ◌++◌, ◌∙◌, Bool, not, List, ℕ, [], codes, false, true, if◌then◌else◌, refl, sym, ap}
use Rattle.flow_graph.specs.Universes.{bits}
use Rattle.point_sets.specs.code.Lines.{line_behind, names_on, set_from}
use Rattle.point_sets.specs.declared.lines.Line.{Line}
use Rattle.text_pieces.proofs.sinks.Taking.{takes_as, takes_then}
use Rattle.block_dots.specs.code.BlockBits.{shown_among}
use Rattle.block_dots.proofs.block_bits.write_block_bits.Goals as goal

is_false : (b : Bool) → not b ≡ true → b ≡ false
is_false true is = absurd (cc is)
is_false false is = refl

pub returns-then-not-last : goal.returns-then-not-last
returns-then-not-last g c =
    let last : Line = c.write_bits-last.result in
    let start : Line = record { column = c.args.column; others = false } in
    let names : ℕ → List (List ℕ) = shown_among c.args.set.now c.args.texts.now.texts 0 in
    let all : c.bits-end.result ≡ bits c.args.set.now.graph.now c.args.set.now.analysis = c.bits-end.ensures.count in
    let none : (line_behind start (names c.bits-end.result)).others ≡ false =
    ap (λ (l : Line). l.others) (sym c.write_bits-last.ensures.is_last) ∙ is_false last.others c.if-not-last.true in
    takes_as _ _ _ _ (takes_then _ _ _ _ _ c.write_bits-last.ensures.taken c.write.ensures)
    (ap (λ t. names_on start (names c.bits-end.result) ++ t) (sym (ap (λ b. if b then [] else codes "-") none))
    ∙ ap (λ n. set_from c.args.column (names n)) all)
