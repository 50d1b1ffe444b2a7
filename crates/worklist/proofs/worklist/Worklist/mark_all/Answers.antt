use Rattle.std.proofs.Common.{◌≡◌, ℕ, List, length, replicate, true, ap, sym, subst, ◌∙◌, arith, rules}
use Rattle.worklist.specs.Tables.MarkWords.{AreMarkWords, AreFull, marks_of}
use Rattle.worklist.proofs.words.MarkLemmas.{length-marks_of, full_marks}
use Rattle.worklist.proofs.words.Written.{read_back}
use Rattle.worklist.proofs.worklist.Worklist.mark_all.Goals as goal

pub invariant_of-self : goal.invariant_of-self
invariant_of-self c =
    let words : List ℕ = c.fill_words.new.words in
    let len : c.self.inside.words.len ≡ length words = search rules in
    let old : length words ≡ length c.self.inside.words.items = search rules in
    let full = subst (λ n. AreFull n words) c.points-points.ensures.count c.fill_words.ensures in
    let room = c.self.invariant.room in
    let most = c.self.invariant.full in
    subst (λ (xs : List ℕ). AreMarkWords (length c.self.inside.order) xs)
    (sym (read_back c.self.inside.words.len words c.self.inside.words.items len))
    record { few = c.self.invariant.few; room = omega (arith, room, old); full = omega (arith, most, old); above = full.1 }

pub returns : goal.returns
returns c =
    let words : List ℕ = c.fill_words.new.words in
    let len : c.self.inside.words.len ≡ length words = search rules in
    let full = subst (λ n. AreFull n words) c.points-points.ensures.count c.fill_words.ensures in
    ap (λ xs. marks_of xs c.self.inside.order) (read_back c.self.inside.words.len words c.self.inside.words.items len)
    ∙ (full_marks words c.self.inside.order c.points-points.ensures.order full
    ∙ ap (λ n. replicate n true) (sym (length-marks_of c.self.inside.words.items c.self.inside.order) ∙ ap length c.self.view_is))
