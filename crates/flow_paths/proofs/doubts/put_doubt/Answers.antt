use Rattle.std.proofs.Common.{◌≡◌, ◌+◌, ℕ, suc, Option, subst, arith}
use Rattle.std.specs.Prelude.{MatchOption}
use Rattle.flow_graph.specs.Analyses.{shape_of}
use Rattle.flow_graph.specs.Runs.{IsDoubtful}
use Rattle.flow_reasons.specs.Doubts.{IsDoubtOrigin}
use Rattle.flow_paths.specs.Doubts.{HasOrigin}
use Rattle.flow_paths.specs.declared.doubts.Doubt.{Doubt}
use Rattle.flow_paths.proofs.lists.Doubting.{all_put}
use Rattle.flow_paths.proofs.doubts.put_doubt.Goals as goal

pub returns-clause-origins : goal.returns-clause-origins
returns-clause-origins c =
    let program = c.args.reasons.now in
    let doubt : Doubt = record { point = c.args.point; variable = c.args.variable; origin = c.in-Some.origin } in
    let next : c.args.point + 1 ≡ suc c.args.point = omega arith in
    let told : IsDoubtOrigin program (c.args.point + 1) c.in-Some.origin =
    subst (λ (o : Option ℕ). MatchOption o (¬ (IsDoubtful (shape_of program) (c.args.point + 1))) (λ origin. IsDoubtOrigin program (c.args.point + 1) origin))
    c.in-Some.is c.in_ok-found.ensures in
    let has : HasOrigin program doubt = subst (λ (n : ℕ). IsDoubtOrigin program n c.in-Some.origin) next told in
    λ all. all_put (HasOrigin program) c.args.doubts.now.items c.push.new.self.items doubt c.in_ok-push-in-Some.ensures.items has all
