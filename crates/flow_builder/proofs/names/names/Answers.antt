use Rattle.std.proofs.Common.{◌≡◌, ◌∙◌, ℕ, ◌+◌, ◌<◌, [], ◌∷◌, ◌++◌, All, List, length, false, get_or, drop, inl, inr, sym, ap, subst, arith, append_assoc}
use Rattle.std.specs.Prelude.{slice_range}
use Rattle.std.proofs.lemmas.List.{length_push}
use Rattle.std.proofs.lemmas.List.Elements.{All-push}
use Rattle.tac_program.specs.Names.{is_one_of}
use Rattle.tac_program.specs.Sound.{AllDiffer, IsLawfulName}
use Rattle.flow_builder.specs.Built.{names_from}
use Rattle.flow_builder.proofs.BadNames.{bad_word, stands_before, unlawful}
use Rattle.flow_builder.proofs.Lists.{behind_one, differ_more, drop_more, none_before, noted_new}
use Rattle.flow_builder.proofs.names.names.Goals as goal

pub returns-then-not-is_lawful-clause-fault : goal.returns-then-not-is_lawful-clause-fault
returns-then-not-is_lawful-clause-fault c =
    bad_word c.args.built c.loop-number.table c.loop-number.number c.loop-number.start c.loop-number.invariant.count
    (omega (arith, c.loop-number-test.true)) c.loop-number.invariant.names (inl (unlawful _ _ c.is_lawful.ensures c.if-not-is_lawful.true))

pub returns-then-not-added-clause-fault : goal.returns-then-not-added-clause-fault
returns-then-not-added-clause-fault c =
    bad_word c.args.built c.loop-number.table c.loop-number.number c.loop-number.start c.loop-number.invariant.count
    (omega (arith, c.loop-number-test.true)) c.loop-number.invariant.names
    (inr (stands_before c.loop-number.table _ _ c.in_ok-added.ensures.new c.if-not-added.true))

pub loop-number-preserved : goal.loop-number-preserved
loop-number-preserved c =
    let ends : List ℕ = c.args.built.ends.now in
    let bytes : List ℕ = c.args.built.bytes.now in
    let n : ℕ = c.loop-number.number in
    let start : ℕ = c.loop-number.start in
    let old : List (List ℕ) = c.loop-number.table in
    let end : ℕ = get_or ends n 0 in
    let name : List ℕ = slice_range bytes start end in
    let below : n < length ends = omega (arith, c.loop-number-test.true) in
    let inv = c.loop-number.invariant in
    let fresh : is_one_of name old ≡ false = none_before (is_one_of name old) c.in_ok-added.added.1 c.in_ok-added.ensures.new c.if-not-added.false in
    let is : c.insert_full.new.self ≡ old ++ name ∷ [] = c.in_ok-added.ensures.noted ∙ noted_new old name fresh in
    record {
      names = ap (λ t. t ++ names_from end (drop (n + 1) ends) bytes) is
          ∙ append_assoc old (name ∷ []) (names_from end (drop (n + 1) ends) bytes)
          ∙ ap (λ es. old ++ names_from start es bytes) (sym (drop_more ends n 0 below))
          ∙ inv.names;
      count = ap length is ∙ length_push old name ∙ ap (λ k. k + 1) inv.count;
      starts = sym (behind_one ends 0 n);
      lawful = subst (All IsLawfulName) (sym is) (All-push IsLawfulName old name inv.lawful (c.is_lawful.ensures.0 c.if-not-is_lawful.false));
      differ = subst AllDiffer (sym is) (differ_more old name fresh inv.differ);
    }
