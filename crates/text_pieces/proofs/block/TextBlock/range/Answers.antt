use Rattle.std.proofs.Common.{rules, ◌+◌, ◌-◌, ◌<◌, length, take, drop, refl, ap, ◌∙◌, arith}
use Rattle.text_pieces.specs.code.Blocks.{separator_text}
use Rattle.text_pieces.proofs.buffers.Blocks.{count_is, is_read}
use Rattle.text_pieces.proofs.block.TextBlock.range.Goals as goal

pub index-stop-requires : goal.index-stop-requires
index-stop-requires c =
    let many = count_is (separator_text c.self.inside.separator)
    c.self.inside.bytes.items c.self.inside.marks.items c.args.self.now c.self.view_is c.self.invariant in
    let there : c.args.end < length c.self.inside.marks.items = omega (arith, many, c.requires.end) in
    search (rules, there)

pub index-requires : goal.index-requires
index-requires c =
    let many = count_is (separator_text c.self.inside.separator)
    c.self.inside.bytes.items c.self.inside.marks.items c.args.self.now c.self.view_is c.self.invariant in
    let there : c.args.first < length c.self.inside.marks.items = omega (arith, many, c.requires.some, c.requires.end) in
    search (rules, there)

pub overflow_add-start : goal.overflow_add-start
overflow_add-start c =
    let read = is_read (separator_text c.self.inside.separator)
    c.self.inside.bytes.items c.self.inside.marks.items c.args.self.now c.args.first c.args.end c.args.others
    c.index.result.now c.skipped.result (c.index.result.now + c.skipped.result)
    c.index-stop.result.now c.self.view_is c.self.invariant c.requires.some c.requires.end
    c.index.ensures c.skipped.ensures refl c.index-stop.ensures in
    search (rules, read.ordered, read.within)

pub slice_bounds-result-count : goal.slice_bounds-result-count
slice_bounds-result-count c =
    let read = is_read (separator_text c.self.inside.separator)
    c.self.inside.bytes.items c.self.inside.marks.items c.args.self.now c.args.first c.args.end c.args.others
    c.index.result.now c.skipped.result (c.index.result.now + c.skipped.result)
    c.index-stop.result.now c.self.view_is c.self.invariant c.requires.some c.requires.end
    c.index.ensures c.skipped.ensures refl c.index-stop.ensures in
    read.ordered

pub slice_bounds-result-start : goal.slice_bounds-result-start
slice_bounds-result-start c =
    let read = is_read (separator_text c.self.inside.separator)
    c.self.inside.bytes.items c.self.inside.marks.items c.args.self.now c.args.first c.args.end c.args.others
    c.index.result.now c.skipped.result (c.index.result.now + c.skipped.result)
    c.index-stop.result.now c.self.view_is c.self.invariant c.requires.some c.requires.end
    c.index.ensures c.skipped.ensures refl c.index-stop.ensures in
    search (rules, read.ordered, read.within)

pub slice_bounds-result-end : goal.slice_bounds-result-end
slice_bounds-result-end c =
    let read = is_read (separator_text c.self.inside.separator)
    c.self.inside.bytes.items c.self.inside.marks.items c.args.self.now c.args.first c.args.end c.args.others
    c.index.result.now c.skipped.result (c.index.result.now + c.skipped.result)
    c.index-stop.result.now c.self.view_is c.self.invariant c.requires.some c.requires.end
    c.index.ensures c.skipped.ensures refl c.index-stop.ensures in
    search (rules, read.ordered, read.within)

pub returns : goal.returns
returns c =
    let read = is_read (separator_text c.self.inside.separator)
    c.self.inside.bytes.items c.self.inside.marks.items c.args.self.now c.args.first c.args.end c.args.others
    c.index.result.now c.skipped.result (c.index.result.now + c.skipped.result)
    c.index-stop.result.now c.self.view_is c.self.invariant c.requires.some c.requires.end
    c.index.ensures c.skipped.ensures refl c.index-stop.ensures in
    ap (λ bs. take (c.index-stop.result.now - (c.index.result.now + c.skipped.result)) (drop (c.index.result.now + c.skipped.result) bs))
    c.deref.ensures.value ∙ read.text
