use Rattle.std.proofs.Common.{◌≡◌, ◌∙◌, sym, ap, Some, None, codes}
use Rattle.std.specs.Prelude.{option_map}
use Rattle.clap.specs.Words.{found_of, rows_of, first_of}
use Rattle.clap.proofs.WalkLemmas.{first_value-rows}
use Rattle.part_texts.specs.Shares.{read_share, some_share}
use Rattle.view_words.specs.Commands.{known_share}
use Rattle.view_words.proofs.words.share_found.Goals as goal

pub returns-in-Some-read : goal.returns-in-Some-read
returns-in-Some-read c =
    let rows = rows_of (found_of c.args.matches.now) in
    let found : first_of (codes "part") rows ≡ Some c.in-Some.words.now =
    sym (first_value-rows (found_of c.args.matches.now) (codes "part")) ∙ sym c.get_str.ensures ∙ ap (option_map (λ s. s.now)) c.in-Some.is in
    sym (ap known_share found ∙ ap (option_map Some) (ap read_share (sym c.as_bytes.ensures.value) ∙ sym c.read.ensures ∙ ap some_share c.in-Some-read.is))

pub returns-in-None-read : goal.returns-in-None-read
returns-in-None-read c =
    let rows = rows_of (found_of c.args.matches.now) in
    let found : first_of (codes "part") rows ≡ Some c.in-Some.words.now =
    sym (first_value-rows (found_of c.args.matches.now) (codes "part")) ∙ sym c.get_str.ensures ∙ ap (option_map (λ s. s.now)) c.in-Some.is in
    sym (ap known_share found ∙ ap (option_map Some) (ap read_share (sym c.as_bytes.ensures.value) ∙ sym c.read.ensures ∙ ap some_share c.in-None-read.is))

pub returns-in-None : goal.returns-in-None
returns-in-None c =
    let rows = rows_of (found_of c.args.matches.now) in
    let found : first_of (codes "part") rows ≡ None =
    sym (first_value-rows (found_of c.args.matches.now) (codes "part")) ∙ sym c.get_str.ensures ∙ ap (option_map (λ s. s.now)) c.in-None.is in
    sym (ap known_share found)
