use Rattle.std.proofs.Common.{rules, ◌≡◌, ◌+◌, ◌*◌, ◌<◌, length, get_or, subst, sym, ap, ◌∙◌, arith}
use Rattle.std.specs.Mem.Slots.{slots_items}
use Rattle.bit_rows.specs.RowSet.{IsWordOf}
use Rattle.bit_rows.specs.RowTable.{RowTable, set_at}
use Rattle.slice_board.specs.Boards.{words_for}
use Rattle.slice_board.specs.code.Worded.{word_of, worded_table}
use Rattle.slice_board.proofs.words.Sums.{read_at}
use Rattle.slice_board.proofs.words.Worded.{no_word_there, word_there}
use Rattle.slice_board.proofs.posted_words.PostedWords.word.Goals as goal

pub returns-then-word-words_for : goal.returns-then-word-words_for
returns-then-word-words_for c =
    let inside = c.self.inside in
    let flags = inside.flags.items in
    let there : c.args.point < length flags = subst (λ (t : RowTable). c.args.point < length t.flags) (sym c.self.view_is) c.requires in
    subst (λ (t : RowTable). IsWordOf (set_at t c.args.point) c.args.word 0) c.self.view_is
    (no_word_there inside.bits flags (word_of (slots_items inside.closed.words) inside.first (length flags)) c.args.point c.args.word there
    (omega (arith, c.words_for.ensures, c.if-word-words_for.true)))

pub returns : goal.returns
returns c =
    let inside = c.self.inside in
    let flags = inside.flags.items in
    let words = slots_items inside.closed.words in
    let there : c.args.point < length flags = subst (λ (t : RowTable). c.args.point < length t.flags) (sym c.self.view_is) c.requires in
    let small : c.args.word < words_for inside.bits = omega (arith, c.words_for.ensures, c.if-word-words_for.false) in
    let len : c.len.result ≡ length flags = search rules in
    let value : c.word.result ≡ word_of words inside.first (length flags) c.args.point c.args.word =
    sym (read_at words (inside.first + c.args.point + c.args.word * c.len.result) c.word.result c.word.ensures)
    ∙ ap (λ n. get_or words (inside.first + c.args.point + c.args.word * n) 0) len in
    subst (λ (t : RowTable). IsWordOf (set_at t c.args.point) c.args.word c.word.result) c.self.view_is
    (subst (IsWordOf (set_at (worded_table inside.bits flags (word_of words inside.first (length flags))) c.args.point) c.args.word) (sym value)
    (word_there inside.bits flags (word_of words inside.first (length flags)) c.args.point c.args.word there
    (λ k within past. c.self.invariant.2.clear c.args.point c.args.word k there small within past)))
