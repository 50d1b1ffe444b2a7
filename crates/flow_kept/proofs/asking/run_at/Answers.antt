use Rattle.std.proofs.Common.{◌≡◌, ◌+◌, ◌<◌, ◌⊎◌, ℕ, max, not, Bool, true, false, length, get_or, inl, inr, sym, ◌∙◌, subst, rules, arith}
use Rattle.std.proofs.lemmas.Bool.{cases_lt}
use Rattle.std.proofs.lemmas.Option.{slice_get-get_or}
use denote.Enum.Bare.{sameb, same_true}
use Rattle.flow_graph.specs.contracts.analysis.Analysis.{the_type}
use Rattle.flow_graph.specs.declared.analysis.Analysis.TheVariants.{Reach}
use Rattle.flow_kept.specs.code.Asked.{AreInRun}
use Rattle.flow_kept.specs.declared.asking.Run.{Run}
use Rattle.flow_queries.specs.declared.query.Query.{Query}
use Rattle.flow_kept.proofs.facts.Asked.{run_more}
use Rattle.flow_kept.proofs.asking.run_at.Goals as goal

true_of : (b : Bool) → not b ≡ false → b ≡ true
true_of true is = λ i. true
true_of false is = absurd (cc is)

larger : (a b most : ℕ) → most ≡ max a b → (most ≡ a) ⊎ (most ≡ b)
larger a b most is = elim (cases_lt a b) [ inl less ↦ inr (omega (arith, is)) | inr more ↦ inl (omega (arith, is)) ]

pub loop-j-preserved : goal.loop-j-preserved
loop-j-preserved c =
    let queries = c.args.queries.now in
    let places = c.args.places.now in
    let run : Run = c.loop-j.run in
    let j : ℕ = c.loop-j.j in
    let blank : Query = record { analysis = Reach; point = 0; word = 0; bits = 0 } in
    let before = c.loop-j.invariant in
    let query : Query = get_or queries (get_or places j 0) blank in
    let inside : get_or places j 0 < length queries = c.requires.places j (omega (arith, c.loop-j-test.true)) in
    let there = slice_get-get_or queries (get_or places j 0) blank inside in
    let same : query.analysis ≡ run.analysis =
    same_true the_type (search rules) query.analysis run.analysis (true_of (sameb the_type query.analysis run.analysis) (sym c.ne.ensures ∙ c.if-ne.false)) in
    let here : AreInRun queries places c.args.from (record { analysis = run.analysis; until = j; first = run.first; last = run.last }) =
    subst (λ n. AreInRun queries places c.args.from (record { analysis = run.analysis; until = n; first = run.first; last = run.last }))
    before.until before.in_run in
    record {
      until = λ i. j + 1;
      in_run = run_more queries places c.args.from (record { analysis = run.analysis; until = j; first = run.first; last = run.last }) query
          c.min.result c.max.result here (omega (arith, c.loop-j-test.true)) there same
          (omega (arith, c.min.ensures)) (omega (arith, c.min.ensures)) (omega (arith, c.max.ensures)) (omega (arith, c.max.ensures))
          (larger run.last query.word c.max.result c.max.ensures);
    }
