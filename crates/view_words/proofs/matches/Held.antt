-- The matches of `tacview`'s command hold each of its options.
use Rattle.std.proofs.Common.{◌≡◌, refl, sym, subst, List, codes, ◌⊎◌, inl, inr}
use Rattle.std.specs.Borrow.{Bor}
use Rattle.clap.specs.Facts.{HasDefaults, ValuesPass}
use Rattle.clap.specs.Simple.{App, app_of, built}
use Rattle.clap.specs.Words.{rows_of}
use Rattle.clap.specs.declared.builder.command.Command.{Command}
use Rattle.clap.specs.declared.builder.possible_value.PossibleValue.{PossibleValue}
use Rattle.clap.specs.declared.parser.matches.Found.{Found}
use Rattle.flow_runs.specs.Words.{AreKindsOf, sizes}
use Rattle.flow_runs.proofs.matches.HeldValues as lemmas
use Rattle.flow_runs.proofs.matches.Cases.{other}
use Rattle.view_words.specs.Commands.{tacview_command}
use Rattle.view_words.specs.Kinds.{formats}
use Rattle.view_words.specs.code.Matches.{HoldsOptions}

-- The rules have the options that both programs have, with the format for their kind, and the limits.
pub record HasOptions (a : App) (values bounds : Bor (List PossibleValue)) : Type 0 where
  pub options : lemmas.HasOptions a (codes "format") values
  pub limits : lemmas.HasKind a (codes "limits") bounds

as_made : (values bounds : Bor (List PossibleValue)) → HasOptions (tacview_command values bounds) values bounds
as_made values bounds = record {
  options = record {
    plain = refl;
    workers = (other, (other, (other, (other, (other, (other, (other, (other, (other, (other, (other, (other, (other, (other, (other, (other, (other, (λ _. record { parser = refl; any_case = refl; least = refl; action = refl; simple = refl }, (other, tt)))))))))))))))))));
    cut = (other, (other, (other, (other, (other, (other, (other, (other, (other, (other, (other, (other, (other, (other, (other, (other, (other, (other, (λ _. record { parser = refl; any_case = refl; least = refl; action = refl; simple = refl }, tt)))))))))))))))))));
    workers_default = refl;
    cut_default = refl;
    one_kind = record {
      of_kind = (λ _. record { parser = refl; any_case = refl; least = refl; action = refl; simple = refl }, (other, (other, (other, (other, (other, (other, (other, (other, (other, (other, (other, (other, (other, (other, (other, (other, (other, (other, tt)))))))))))))))))));
      kind_default = refl;
    };
  };
  limits = record {
    of_kind = (other, (other, (other, (other, (other, (other, (other, (other, (other, (other, (other, (other, (other, (other, (other, (other, (λ _. record { parser = refl; any_case = refl; least = refl; action = refl; simple = refl }, (other, (other, tt)))))))))))))))))));
    kind_default = refl;
  };
}

as_built : (values bounds : Bor (List PossibleValue)) → HasOptions (built (tacview_command values bounds)) values bounds
as_built values bounds = record {
  options = record {
    plain = refl;
    workers = (other, (other, (other, (other, (other, (other, (other, (other, (other, (other, (other, (other, (other, (other, (other, (other, (other, (λ _. record { parser = refl; any_case = refl; least = refl; action = refl; simple = refl }, (other, (other, tt))))))))))))))))))));
    cut = (other, (other, (other, (other, (other, (other, (other, (other, (other, (other, (other, (other, (other, (other, (other, (other, (other, (other, (λ _. record { parser = refl; any_case = refl; least = refl; action = refl; simple = refl }, (other, tt))))))))))))))))))));
    workers_default = refl;
    cut_default = refl;
    one_kind = record {
      of_kind = (λ _. record { parser = refl; any_case = refl; least = refl; action = refl; simple = refl }, (other, (other, (other, (other, (other, (other, (other, (other, (other, (other, (other, (other, (other, (other, (other, (other, (other, (other, (other, tt))))))))))))))))))));
      kind_default = refl;
    };
  };
  limits = record {
    of_kind = (other, (other, (other, (other, (other, (other, (other, (other, (other, (other, (other, (other, (other, (other, (other, (other, (λ _. record { parser = refl; any_case = refl; least = refl; action = refl; simple = refl }, (other, (other, (other, tt))))))))))))))))))));
    kind_default = refl;
  };
}

pub has_options : (values bounds : Bor (List PossibleValue)) (a : App)
    → (a ≡ tacview_command values bounds) ⊎ (a ≡ built (tacview_command values bounds)) → HasOptions a values bounds
has_options values bounds a is = elim is [
  | inl made ↦ subst (λ (b : App). HasOptions b values bounds) (sym made) (as_made values bounds)
  | inr made ↦ subst (λ (b : App). HasOptions b values bounds) (sym made) (as_built values bounds)
]

pub options_held : (c : Command) (f : Found) (values bounds : Bor (List PossibleValue)) → HasOptions (app_of c) values bounds
    → AreKindsOf formats values.now → AreKindsOf sizes bounds.now → ValuesPass c f → HasDefaults c f → HoldsOptions (rows_of f)
options_held c f values bounds has are_formats are_limits passes defaults =
    let held = lemmas.options_held formats c f (codes "format") values (λ e. cc) has.options are_formats passes defaults in
    let limits = lemmas.kind_held sizes c f (codes "limits") bounds (λ e. cc) has.options.plain has.limits are_limits passes defaults in
    record { workers = held.0; cut = held.1; format = held.2; limits = limits }
