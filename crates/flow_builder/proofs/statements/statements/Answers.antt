use Rattle.std.proofs.Common.{◌∙◌, ℕ, ◌<◌, [], ◌∷◌, ◌++◌, List, length, get_or, refl, sym, ap, arith}
use Rattle.std.proofs.lemmas.Option.{slice_get-get_or}
use Rattle.flow_builder.specs.Built.{statement_of}
use Rattle.flow_builder.specs.Checks.{IsSoundNumbers}
use Rattle.flow_builder.specs.declared.arrays.BuiltStatement.{BuiltStatement}
use Rattle.flow_builder.proofs.Lists.{All_more, All_whole, map_more}
use Rattle.flow_builder.proofs.statements.statements.Goals as goal

pub returns-in-None-clause-fault : goal.returns-in-None-clause-fault
returns-in-None-clause-fault c =
    let xs : List BuiltStatement = c.args.built.now in
    let i : ℕ = c.loop-i.i in
    let below : i < length xs = omega (arith, c.loop-i-test.true) in
    (i, get_or xs i _, slice_get-get_or xs i _ below, refl, c.statement.ensures.none c.in-None.is)

pub loop-i-preserved : goal.loop-i-preserved
loop-i-preserved c =
    let xs : List BuiltStatement = c.args.built.now in
    let i : ℕ = c.loop-i.i in
    let below : i < length xs = omega (arith, c.loop-i-test.true) in
    let inv = c.loop-i.invariant in
    record {
      statements = c.in_ok-put-in-Some.ensures
          ∙ ap (λ s. c.loop-i.statements.items ++ s ∷ []) c.in-Some.ensures.built
          ∙ ap (λ l. l ++ statement_of c.args.callees.now (get_or xs i _) ∷ []) inv.statements
          ∙ sym (map_more (statement_of c.args.callees.now) xs i _ below);
      sound = All_more (IsSoundNumbers c.args.counts.variables c.args.counts.labels c.args.counts.procedures c.args.callees.now) xs i _ below inv.sound
          c.in-Some.ensures.sound;
    }

pub returns-clause-sound : goal.returns-clause-sound
returns-clause-sound c =
    All_whole (IsSoundNumbers c.args.counts.variables c.args.counts.labels c.args.counts.procedures c.args.callees.now) c.args.built.now c.loop-i.i
    (omega (arith, c.loop-i-test.false)) c.loop-i.invariant.sound
