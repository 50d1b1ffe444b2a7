use Rattle.std.proofs.Common.{◌≡◌, ◌<◌, ◌-◌, ◌/◌, ◌^◌, ℕ, List, length, get_or, set, replicate, ap, subst, sym, ◌∙◌, arith}
use Rattle.std.proofs.lemmas.List.{length-replicate, get_or-replicate}
use Rattle.worklist.specs.Tables.MarkWords.{AreFull}
use Rattle.worklist.proofs.words.MarkLemmas.{full_whole, full_part}
use Rattle.worklist.proofs.worklist.fill_words.Goals as goal

ones : (words : List ℕ) (n : ℕ) → words ≡ replicate n (2 ^ 64 - 1) → (k : ℕ) → k < length words → get_or words k 0 ≡ 2 ^ 64 - 1
ones words n is k low =
    let same : length words ≡ n = ap length is ∙ length-replicate n (2 ^ 64 - 1) in
    let below : k < n = omega (arith, low, same) in
    ap (λ ws. get_or ws k 0) is ∙ get_or-replicate n k (2 ^ 64 - 1) 0 below

pub returns-then-bits-ne0 : goal.returns-then-bits-ne0
returns-then-bits-ne0 c =
    let is = c.fill.ensures.after (λ y same. same) in
    let same : length c.fill.new.self ≡ length c.args.words.now = c.fill.ensures.len in
    let room = c.requires.0 in
    let full = c.requires.1 in
    subst (λ v. AreFull c.args.bits (set c.fill.new.self (c.args.bits / 64) v)) (sym c.low_ones.ensures.value)
    (full_part c.fill.new.self c.args.bits (ones c.fill.new.self (length c.args.words.now) is) (omega (arith, room, same)) (omega (arith, full, same))
    c.if-bits-ne0.true)

pub returns-else-bits-ne0 : goal.returns-else-bits-ne0
returns-else-bits-ne0 c =
    let is = c.fill.ensures.after (λ y same. same) in
    let same : length c.fill.new.self ≡ length c.args.words.now = c.fill.ensures.len in
    let room = c.requires.0 in
    let full = c.requires.1 in
    full_whole c.fill.new.self c.args.bits (ones c.fill.new.self (length c.args.words.now) is) (omega (arith, room, same)) (omega (arith, full, same))
    c.if-bits-ne0.false
