use Rattle.std.proofs.Common.{◌≡◌, ◌∙◌, ℕ, ◌+◌, ◌<◌, [], ◌∷◌, ◌++◌, List, Bool, if◌then◌else◌, map, sym, ap, arith}
use Rattle.flow_reports.specs.Listed.{placed_at}
use Rattle.flow_reports.specs.code.Findings.{knowledge_of}
use Rattle.flow_reports.specs.declared.listed.PlacedRemark.{PlacedRemark}
use Rattle.flow_reports.specs.declared.remark.Remark.{Remark}
use Rattle.flow_reports.specs.declared.remark.Remark.TheVariants.{VeryBusy}
use Rattle.flow_reports.proofs.knowledge.Listed.{map_if, members, one_more, then_made}
use Rattle.flow_reports.proofs.findings.Findings.put_busy_word.Goals as goal

pub loop-place-preserved : goal.loop-place-preserved
loop-place-preserved c =
    let test : ℕ → Bool = (knowledge_of c.args.self.now).busy.contains c.args.point in
    let point : ℕ = c.args.point in
    let place : ℕ = c.loop-place.place in
    let first : ℕ = c.args.first in
    let before : List PlacedRemark = c.loop-place.remarks.items in
    let small : place < 64 = omega (arith, c.loop-place-test.true, c.requires.width, c.requires.ordered) in
    let busy : c.is_one-is_busy.result ≡ test (first + place) = c.is_one-is_busy.ensures ∙ c.requires.word place small in
    let made : map (λ e. VeryBusy e) (if test (first + place) then (first + place) ∷ [] else [])
    ≡ (if c.is_one-is_busy.result then VeryBusy (first + place) ∷ [] else []) =
    map_if (λ e. VeryBusy e) (test (first + place)) (first + place)
    ∙ ap (λ (b : Bool). let none : List Remark = [] in if b then VeryBusy (first + place) ∷ [] else none) (sym busy) in
    then_made point (λ e. VeryBusy e) c.args.remarks.now.items before c.put_if.new.remarks.items (members test first place)
    (if test (first + place) then (first + place) ∷ [] else []) (members test first (place + 1)) c.loop-place.invariant
    (c.in_ok-put_if.ensures ∙ ap (λ (rs : List Remark). before ++ placed_at point rs) (sym made)) (one_more test first place)
