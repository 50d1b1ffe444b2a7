-- The matches of `tacflow`'s command hold each of its options.
use Rattle.std.proofs.Common.{◌≡◌, refl, sym, subst, List, codes, ◌⊎◌, inl, inr}
use Rattle.std.specs.Borrow.{Bor}
use Rattle.clap.specs.Facts.{HasDefaults, ValuesPass}
use Rattle.clap.specs.Simple.{App, app_of, built}
use Rattle.clap.specs.Words.{rows_of}
use Rattle.clap.specs.declared.builder.command.Command.{Command}
use Rattle.clap.specs.declared.builder.possible_value.PossibleValue.{PossibleValue}
use Rattle.clap.specs.declared.parser.matches.Found.{Found}
use Rattle.flow_runs.specs.Words.{AreKindsOf}
use Rattle.flow_runs.proofs.matches.HeldValues as options
use Rattle.flow_runs.proofs.matches.Cases.{other}
use Rattle.flow_commands.specs.Commands.{tacflow_command}
use Rattle.flow_commands.specs.Kinds.{kinds}
use Rattle.flow_commands.specs.code.Matches.{HoldsOptions}

abbrev pub HasOptions : App → Bor (List PossibleValue) → Type 0
HasOptions a values = options.HasOptions a (codes "show") values

as_made : (values : Bor (List PossibleValue)) → HasOptions (tacflow_command values) values
as_made values = record {
  plain = refl;
  workers = (λ _. record { parser = refl; any_case = refl; least = refl; action = refl; simple = refl }, (other, (other, tt)));
  cut = (other, (λ _. record { parser = refl; any_case = refl; least = refl; action = refl; simple = refl }, (other, tt)));
  workers_default = refl;
  cut_default = refl;
  one_kind = record {
    of_kind = (other, (other, (λ _. record { parser = refl; any_case = refl; least = refl; action = refl; simple = refl }, tt)));
    kind_default = refl;
  };
}

as_built : (values : Bor (List PossibleValue)) → HasOptions (built (tacflow_command values)) values
as_built values = record {
  plain = refl;
  workers = (λ _. record { parser = refl; any_case = refl; least = refl; action = refl; simple = refl }, (other, (other, (other, tt))));
  cut = (other, (λ _. record { parser = refl; any_case = refl; least = refl; action = refl; simple = refl }, (other, (other, tt))));
  workers_default = refl;
  cut_default = refl;
  one_kind = record {
    of_kind = (other, (other, (λ _. record { parser = refl; any_case = refl; least = refl; action = refl; simple = refl }, (other, tt))));
    kind_default = refl;
  };
}

pub has_options : (values : Bor (List PossibleValue)) (a : App) → (a ≡ tacflow_command values) ⊎ (a ≡ built (tacflow_command values))
    → HasOptions a values
has_options values a is = elim is [
  | inl made ↦ subst (λ (b : App). HasOptions b values) (sym made) (as_made values)
  | inr made ↦ subst (λ (b : App). HasOptions b values) (sym made) (as_built values)
]

pub options_held : (c : Command) (f : Found) (values : Bor (List PossibleValue)) → HasOptions (app_of c) values → AreKindsOf kinds values.now
    → ValuesPass c f → HasDefaults c f → HoldsOptions (rows_of f)
options_held c f values has are passes defaults =
    let held = options.options_held kinds c f (codes "show") values (λ e. cc) has are passes defaults in
    record { workers = held.0; cut = held.1; show = held.2 }
