use Rattle.std.proofs.Common.{rules, ◌≡◌, List, ℕ, length, ◌++◌, ap, ◌∙◌}
use Rattle.text_pieces.specs.code.Blocks.{SeparatedTexts, separator_text, with_text}
use Rattle.text_pieces.proofs.buffers.Blocks.{grows}
use Rattle.text_pieces.proofs.block.TextBlock.with_text.Goals as goal

pub invariant_of-result : goal.invariant_of-result
invariant_of-result c =
    let fields = c.self.inside in
    let ends : c.len.result ≡ length c.extend_from_slice-2.new.self.items = search rules in
    let all = grows (separator_text fields.separator)
    fields.bytes.items fields.marks.items c.args.text.now c.extend_from_slice.new.self.items c.extend_from_slice-2.new.self.items
    c.push.new.self.items c.len.result c.self.invariant
    (c.in_ok-extend_from_slice.ensures.items ∙ ap (λ t. fields.bytes.items ++ t) c.bytes.ensures)
    c.in_ok-extend_from_slice-2.ensures.items ends c.in_ok-push.ensures.items in
    all.block

pub returns : goal.returns
returns c =
    let fields = c.self.inside in
    let ends : c.len.result ≡ length c.extend_from_slice-2.new.self.items = search rules in
    let all = grows (separator_text fields.separator)
    fields.bytes.items fields.marks.items c.args.text.now c.extend_from_slice.new.self.items c.extend_from_slice-2.new.self.items
    c.push.new.self.items c.len.result c.self.invariant
    (c.in_ok-extend_from_slice.ensures.items ∙ ap (λ t. fields.bytes.items ++ t) c.bytes.ensures)
    c.in_ok-extend_from_slice-2.ensures.items ends c.in_ok-push.ensures.items in
    ap (λ (ts : List (List ℕ)). record { between = separator_text fields.separator; texts = ts }) all.texts
    ∙ ap (λ (b : SeparatedTexts). with_text b c.args.text.now) c.self.view_is
