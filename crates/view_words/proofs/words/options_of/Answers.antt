use Rattle.std.proofs.Common.{◌≡◌, ◌∙◌, refl, sym, ap, ap₂, arith, ◌&&◌, Option, Some, None, is_some, Bool, true, false, codes, List, ℕ}
use Rattle.std.specs.Prelude.{option_map}
use Rattle.std.specs.Option.{option_map_or}
use Rattle.clap.specs.Words.{first_of, found_of, rows_of}
use Rattle.flow_runs.proofs.matches.Numbers.{named_within}
use Rattle.part_texts.specs.Shares.{some_share}
use Rattle.view_words.specs.Commands.{knows_facts, knows_share}
use Rattle.view_words.specs.Kinds.{facts_queried, facts_named}
use Rattle.view_words.specs.declared.options.Format.{Format}
use Rattle.view_words.proofs.words.options_of.Goals as goal

-- facts are found exactly where the list, if there is one, names facts
queried_known : (format : Format) (o : Option (List ℕ)) → is_some (facts_queried format o) ≡ option_map_or (λ list. is_some (facts_named list)) o true
queried_known format None = refl
queried_known format (Some list) = refl

-- a test that fails, behind any other
and_none : (a b : Bool) → b ≡ false → false ≡ (a && b)
and_none true b is = sym is
and_none false b is = refl

pub returns-in_default-share_found-clause-known : goal.returns-in_default-share_found-clause-known
returns-in_default-share_found-clause-known c =
    let rows = rows_of (found_of c.args.matches.now) in
    let share : knows_share rows ≡ false =
    sym (ap is_some c.share_found.ensures) ∙ ap is_some (ap (option_map some_share) c.in_default-share_found.is) in
    and_none (knows_facts rows) (knows_share rows) share

pub returns-clause-known : goal.returns-clause-known
returns-clause-known c =
    let rows = rows_of (found_of c.args.matches.now) in
    let workers = named_within rows _ 64 c.requires.held.workers (omega arith) c.number_of-workers.result c.number_of-workers.ensures in
    let cut = named_within rows _ 4096 c.requires.held.cut (omega arith) c.number_of-cut.result c.number_of-cut.ensures in
    let made = c.new.ensures.answered.1 (workers.0, workers.1, cut.0, cut.1) in
    let facts : knows_facts rows ≡ true =
    sym (queried_known c.args.format (first_of (codes "facts") rows)) ∙ sym (ap is_some c.facts_found.ensures) ∙ ap is_some c.in-Some.is in
    let share : knows_share rows ≡ true = sym (ap is_some c.share_found.ensures) ∙ ap is_some (ap (option_map some_share) c.in-Some-share_found.is) in
    made ∙ sym (ap₂ (λ a b. a && b) facts share)

pub returns-in_default-clause-known : goal.returns-in_default-clause-known
returns-in_default-clause-known c =
    let rows = rows_of (found_of c.args.matches.now) in
    let facts : knows_facts rows ≡ false =
    sym (queried_known c.args.format (first_of (codes "facts") rows)) ∙ sym (ap is_some c.facts_found.ensures) ∙ ap is_some c.in_default.is in
    sym (ap (λ a. a && knows_share rows) facts)
