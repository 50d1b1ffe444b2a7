use Rattle.std.proofs.Common.{◌≡◌, ◌∙◌, ◌⊎◌, ap, subst, sym, map, inl, inr, List, rules}
use Rattle.clap.specs.Simple.{App, app_of, built, is_buildable, is_simple}
use Rattle.clap.specs.Words.{HasKind, Row, fault_of, found_of, is_simple_and_free, matches_of, takes}
use Rattle.clap.proofs.SimpleLemmas.{plain_fields}
use Rattle.flow_commands.specs.Commands.{NamesOptions, tacflow_command}
use Rattle.flow_commands.proofs.matches.Held.{has_options, options_held}
use Rattle.flow_commands.proofs.options.Options.from_words.Goals as goal

pub options_of-requires : goal.options_of-requires
options_of-requires c =
    let values = c.as_slice.result in
    let old = c.in_ok-command.ensures in
    let new = c.try_get_matches_from_mut.new.self in
    let which : (app_of new ≡ tacflow_command values) ⊎ (app_of new ≡ built (tacflow_command values)) = elim c.in-Ok.ensures.after [
      | inl broken ↦ absurd (c.in-Ok.ensures.fails broken)
      | inr whole ↦ elim whole.2 [
        | inl same ↦ inl (same ∙ old)
        | inr now ↦ inr (now (ap is_buildable old) ∙ ap built old)
      ]
    ] in
    let has = has_options values (app_of new) which in
    let parsed = c.in-Ok.ensures.ok.1 (plain_fields new has.plain).globals in
    options_held new (found_of c.in-Ok.matches) values has (search rules) parsed.values parsed.defaults

pub returns-in-Ok : goal.returns-in-Ok
returns-in-Ok c =
    let words = map (λ w. w.now) c.args.words.now in
    let old = c.in_ok-command.ensures in
    let rows = (c.in-Ok.ensures.ok.2 (ap is_simple old)).0 ∙ ap (λ (a : App). matches_of a words) old in
    record {
      values = c.as_slice.result;
      are_kinds = search rules;
      named = subst (λ (r : List Row). NamesOptions r c.options_of.result) rows c.options_of.ensures;
      refused = tt;
      faults = sym (ap (λ (a : App). fault_of a words) old) ∙ c.in-Ok.ensures.kinds (ap is_simple_and_free old);
    }

pub returns : goal.returns
returns c =
    let words = map (λ w. w.now) c.args.words.now in
    let old = c.in_ok-command.ensures in
    record {
      values = c.as_slice.result;
      are_kinds = search rules;
      named = tt;
      refused = λ taken. c.in-Err.ensures.passes (ap (λ (a : App). takes a words) old ∙ taken);
      faults = subst (λ (a : App). HasKind (fault_of a words) c.in-Err.error) old (c.in-Err.ensures.kinds (ap is_simple_and_free old));
    }
