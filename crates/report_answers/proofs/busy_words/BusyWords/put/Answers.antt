use Rattle.std.proofs.Common.{rules, ◌≡◌, ◌∙◌, ◌+◌, ℕ, suc, List, length, slice_index, refl, sym, subst, arith}
use Rattle.std.proofs.lemmas.Grind.{get_or-set_at, get_or_default_zero}
use Rattle.std.proofs.lemmas.List.{length-set}
use Rattle.flow_queries.specs.Queries.{IsWordAt}
use Rattle.report_answers.specs.code.Busy.{AreBusy, busy_query}
use Rattle.report_answers.specs.declared.busy_words.BusyWord.{BusyWord}
use Rattle.report_answers.proofs.busy.Lists.{none_there, passed, put_before}
use Rattle.report_answers.proofs.busy.Rounds.{keeps_put}
use Rattle.report_answers.proofs.busy_words.BusyWords.put.Goals as goal

pub returns-then-mask-eq0-clause-answered : goal.returns-then-mask-eq0-clause-answered
returns-then-mask-eq0-clause-answered c = λ chosen program point answers within asked answered.
    let word : ℕ = c.args.word in
    let answer : IsWordAt program (busy_query point word) 0 = subst (IsWordAt program (busy_query point word)) c.if-mask-eq0.true answers in
    passed chosen program point c.args.self.now.words.items word (suc word) (slice_index c.args.self.now.firsts.items c.args.test) (omega arith)
    (none_there chosen program point word answer) answered

pub returns-clause-keeps : goal.returns-clause-keeps
returns-clause-keeps c =
    let firsts : List ℕ = c.args.self.now.firsts.items in
    let busy : BusyWord = record { word = c.args.word; next = c.index-next.result.now; mask = c.args.mask } in
    keeps_put firsts c.args.self.now.words.items c.args.test (c.len-number.result + 1) busy _
    (length-set firsts c.args.test (c.len-number.result + 1)) refl c.in_ok-push.ensures.items

pub returns-clause-answered : goal.returns-clause-answered
returns-clause-answered c = λ chosen program point answers within asked answered.
    let firsts : List ℕ = c.args.self.now.firsts.items in
    let words : List BusyWord = c.args.self.now.words.items in
    let new : List BusyWord = c.push.new.self.items in
    let next : ℕ = slice_index firsts c.args.test in
    let busy : BusyWord = record { word = c.args.word; next = c.index-next.result.now; mask = c.args.mask } in
    let count : c.len-number.result ≡ length words = search rules in
    let number : suc (length words) ≡ c.len-number.result + 1 = omega (arith, count) in
    let behind : c.index-next.result.now ≡ next =
    c.index-next.ensures ∙ get_or_default_zero firsts c.args.test c.index-next.result.now c.requires in
    let put : AreBusy chosen program new point c.args.word (suc (length words)) =
    put_before chosen program point words new busy next c.in_ok-push.ensures.items behind within asked answers answered in
    subst (λ (n : ℕ). AreBusy chosen program new point c.args.word n)
    (number ∙ sym (get_or-set_at firsts c.args.test c.args.test (c.len-number.result + 1) 0 refl c.requires)) put
