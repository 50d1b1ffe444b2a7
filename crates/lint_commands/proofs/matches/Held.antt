-- The matches of `taclint`'s command hold the options that have a default.
use Rattle.std.proofs.Common.{◌≡◌, ◌∙◌, refl, sym, subst, List, codes, ◌⊎◌, inl, inr, true}
use Rattle.std.specs.Prelude.{pos}
use Rattle.std.specs.Borrow.{Bor}
use Rattle.clap.specs.Facts.{HasDefaults, ValuesPass, args_of}
use Rattle.clap.specs.Simple.{App, app_of, built}
use Rattle.clap.specs.Words.{rows_of}
use Rattle.clap.specs.declared.builder.command.Command.{Command}
use Rattle.clap.specs.declared.builder.possible_value.PossibleValue.{PossibleValue}
use Rattle.clap.specs.declared.builder.value_parser.ValueParser.TheVariants as parser
use Rattle.clap.specs.declared.parser.matches.Found.{Found}
use Rattle.clap.proofs.SimpleLemmas.{plain_fields}
use Rattle.clap.proofs.WalkLemmas.{one_text-rows}
use Rattle.flow_runs.specs.Words.{AreKindsOf, sizes}
use Rattle.flow_runs.proofs.matches.HeldValues as lemmas
use Rattle.flow_runs.proofs.matches.Cases.{other}
use Rattle.flow_runs.proofs.matches.Entries.{OnlyOption, default_held, has_default, matched_in, option_held}
use Rattle.lint_commands.specs.Commands.{taclint_command}
use Rattle.lint_commands.specs.Kinds.{colorings, forms}
use Rattle.lint_commands.specs.code.Matches.{HoldsOptions}

pub record HasOptions (a : App) (bounds shapes colors : Bor (List PossibleValue)) : Type 0 where
  pub plain : a.top.is_plain ≡ true
  pub limits : lemmas.HasKind a (codes "limits") bounds
  pub format : lemmas.HasKind a (codes "format") shapes
  pub color : lemmas.HasKind a (codes "color") colors
  pub workers : OnlyOption a.top.rules (codes "workers") (parser.Signed (pos 1) (pos 64))
  pub workers_default : has_default a.top.rules (codes "workers") ≡ true

as_made : (bounds shapes colors : Bor (List PossibleValue)) → HasOptions (taclint_command bounds shapes colors) bounds shapes colors
as_made bounds shapes colors = record {
  plain = refl;
  limits = record {
    of_kind = (λ _. record { parser = refl; any_case = refl; least = refl; action = refl; simple = refl }, (other, (other, (other, (other, (other, (other, (other, (other, (other, tt))))))))));
    kind_default = refl;
  };
  format = record {
    of_kind = (other, (other, (other, (other, (λ _. record { parser = refl; any_case = refl; least = refl; action = refl; simple = refl }, (other, (other, (other, (other, (other, tt))))))))));
    kind_default = refl;
  };
  color = record {
    of_kind = (other, (other, (other, (other, (other, (other, (λ _. record { parser = refl; any_case = refl; least = refl; action = refl; simple = refl }, (other, (other, (other, tt))))))))));
    kind_default = refl;
  };
  workers = (other, (other, (other, (other, (other, (other, (other, (other, (λ _. record { parser = refl; any_case = refl; least = refl; action = refl; simple = refl }, (other, tt))))))))));
  workers_default = refl;
}

as_built : (bounds shapes colors : Bor (List PossibleValue)) → HasOptions (built (taclint_command bounds shapes colors)) bounds shapes colors
as_built bounds shapes colors = record {
  plain = refl;
  limits = record {
    of_kind = (λ _. record { parser = refl; any_case = refl; least = refl; action = refl; simple = refl }, (other, (other, (other, (other, (other, (other, (other, (other, (other, (other, tt)))))))))));
    kind_default = refl;
  };
  format = record {
    of_kind = (other, (other, (other, (other, (λ _. record { parser = refl; any_case = refl; least = refl; action = refl; simple = refl }, (other, (other, (other, (other, (other, (other, tt)))))))))));
    kind_default = refl;
  };
  color = record {
    of_kind = (other, (other, (other, (other, (other, (other, (λ _. record { parser = refl; any_case = refl; least = refl; action = refl; simple = refl }, (other, (other, (other, (other, tt)))))))))));
    kind_default = refl;
  };
  workers = (other, (other, (other, (other, (other, (other, (other, (other, (λ _. record { parser = refl; any_case = refl; least = refl; action = refl; simple = refl }, (other, (other, tt)))))))))));
  workers_default = refl;
}

pub has_options : (bounds shapes colors : Bor (List PossibleValue)) (a : App)
    → (a ≡ taclint_command bounds shapes colors) ⊎ (a ≡ built (taclint_command bounds shapes colors)) → HasOptions a bounds shapes colors
has_options bounds shapes colors a is = elim is [
  | inl made ↦ subst (λ (b : App). HasOptions b bounds shapes colors) (sym made) (as_made bounds shapes colors)
  | inr made ↦ subst (λ (b : App). HasOptions b bounds shapes colors) (sym made) (as_built bounds shapes colors)
]

pub options_held : (c : Command) (f : Found) (bounds shapes colors : Bor (List PossibleValue)) → HasOptions (app_of c) bounds shapes colors
    → AreKindsOf sizes bounds.now → AreKindsOf forms shapes.now → AreKindsOf colorings colors.now → ValuesPass c f → HasDefaults c f
    → HoldsOptions (rows_of f)
options_held c f bounds shapes colors has are_limits are_forms are_colorings passes defaults =
    let groups = (plain_fields c has.plain).groups in
    let found = matched_in f (codes "workers") (default_held f (codes "workers") (args_of c) defaults has.workers_default) in
    let value = option_held c (codes "workers") _ has.workers groups (λ e. cc) f found.0 passes found.1 in
    record {
      limits = lemmas.kind_held sizes c f (codes "limits") bounds (λ e. cc) has.plain has.limits are_limits passes defaults;
      format = lemmas.kind_held forms c f (codes "format") shapes (λ e. cc) has.plain has.format are_forms passes defaults;
      color = lemmas.kind_held colorings c f (codes "color") colors (λ e. cc) has.plain has.color are_colorings passes defaults;
      workers = (value.0, sym (one_text-rows f (codes "workers")) ∙ value.2, value.3);
    }
