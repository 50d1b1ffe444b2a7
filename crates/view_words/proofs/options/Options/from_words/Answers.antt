use Rattle.std.proofs.Common.{◌≡◌, ◌∙◌, ◌⊎◌, ap, subst, sym, map, inl, inr, rules}
use Rattle.clap.specs.Simple.{App, app_of, built, is_buildable, is_simple}
use Rattle.clap.specs.Words.{HasKind, fault_of, found_of, is_simple_and_free, matches_of, rows_of, takes}
use Rattle.clap.proofs.SimpleLemmas.{plain_fields}
use Rattle.view_words.specs.Commands.{tacview_command}
use Rattle.view_words.proofs.matches.Held.{has_options, options_held}
use Rattle.view_words.proofs.matches.Answered.{answered, refused}
use Rattle.view_words.proofs.options.Options.from_words.Goals as goal

pub named_options-requires : goal.named_options-requires
named_options-requires c =
    let values = c.as_slice.result in
    let bounds = c.as_slice-2.result in
    let old = c.in_ok-command.ensures in
    let new = c.try_get_matches_from_mut.new.self in
    let app = tacview_command values bounds in
    let which : (app_of new ≡ app) ⊎ (app_of new ≡ built app) = elim c.in-Ok.ensures.after [
      | inl broken ↦ absurd (c.in-Ok.ensures.fails broken)
      | inr whole ↦ elim whole.2 [
        | inl same ↦ inl (same ∙ old)
        | inr now ↦ inr (now (ap is_buildable old) ∙ ap built old)
      ]
    ] in
    let has = has_options values bounds (app_of new) which in
    let parsed = c.in-Ok.ensures.ok.1 (plain_fields new has.options.plain).globals in
    options_held new (found_of c.in-Ok.matches) values bounds has (search rules) (search rules) parsed.values parsed.defaults

pub returns-in-Ok : goal.returns-in-Ok
returns-in-Ok c =
    let words = map (λ w. w.now) c.args.words.now in
    let old = c.in_ok-command.ensures in
    let rows = (c.in-Ok.ensures.ok.2 (ap is_simple old)).0 ∙ ap (λ (a : App). matches_of a words) old in
    answered words c.as_slice.result c.as_slice-2.result (search rules) (search rules)
    c.named_options.result (rows_of (found_of c.in-Ok.matches)) rows
    c.named_options.ensures.options c.named_options.ensures.faults
    (sym (ap (λ (a : App). fault_of a words) old) ∙ c.in-Ok.ensures.kinds (ap is_simple_and_free old))

pub returns : goal.returns
returns c =
    let words = map (λ w. w.now) c.args.words.now in
    let old = c.in_ok-command.ensures in
    refused words c.as_slice.result c.as_slice-2.result (search rules) (search rules) c.in-Err.error
    (λ taken. c.in-Err.ensures.passes (ap (λ (a : App). takes a words) old ∙ taken))
    (subst (λ (a : App). HasKind (fault_of a words) c.in-Err.error) old (c.in-Err.ensures.kinds (ap is_simple_and_free old)))
