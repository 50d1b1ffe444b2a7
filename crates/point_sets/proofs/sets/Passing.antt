-- Gen and kill of one bit, as the code finds them.
use Rattle.std.proofs.Common.{◌≡◌, ℕ, Bool, true, false, not, ◌&&◌, ◌||◌, Option, Some, option_map, slice_get, unwrap_or, refl, sym, ap, ◌∙◌}
use Rattle.tac_program.specs.Programs.{Program}
use Rattle.flow_graph.specs.Transfers.{changes, evaluates}
use Rattle.flow_graph.specs.Universes.{evaluated_at, expressions}
use Rattle.flow_graph.specs.declared.analysis.Analysis.TheVariants.{Avail}
use Rattle.flow_graph.specs.declared.expression.Expr.{Expr}
use Rattle.gen_kill.specs.code.Effects.{marks}
use Rattle.gen_kill.proofs.bits.OwnBits.{expression_is_own}
use Rattle.point_sets.specs.Sets.{passes}

-- gen ∪ (X − kill), where what is evaluated is not generated if it is killed
avail_cases : (evaluated before changed : Bool) → (not changed && (evaluated || before)) ≡ ((evaluated && not changed) || (before && not changed))
avail_cases true true true = refl
avail_cases true true false = refl
avail_cases true false true = refl
avail_cases true false false = refl
avail_cases false true true = refl
avail_cases false true false = refl
avail_cases false false true = refl
avail_cases false false false = refl

pub avail_passes : (program : Program) (point bit : ℕ) (before : Bool) (e : Expr) → slice_get (expressions program) bit ≡ Some e
    → (not (changes program point e) && (marks (evaluated_at program point) bit || before)) ≡ passes program Avail point bit before
avail_passes program point bit before e at =
    let own : marks (evaluated_at program point) bit ≡ evaluates program point e =
    expression_is_own program point bit ∙ ap (λ (o : Option Expr). unwrap_or (option_map (evaluates program point) o) false) at in
    ap (λ b. not (changes program point e) && (b || before)) own
    ∙ avail_cases (evaluates program point e) before (changes program point e)
    ∙ sym (ap (λ (o : Option Expr). unwrap_or (option_map (λ (x : Expr). evaluates program point x && not (changes program point x)) o) false
    || (before && not (unwrap_or (option_map (changes program point) o) false))) at)
