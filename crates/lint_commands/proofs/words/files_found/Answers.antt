use Rattle.std.proofs.Common.{◌≡◌, ◌∙◌, sym, ap, List, [], map, Option, Some, None, codes}
use Rattle.std.specs.Prelude.{option_map, unwrap_or}
use Rattle.std.proofs.lemmas.Result.{IfOk-weaker}
use Rattle.std.specs.String.{string_bytes}
use Rattle.clap.specs.Words.{Text, found_of, rows_of, all_of}
use Rattle.clap.proofs.WalkLemmas.{raw_values-rows}
use Rattle.lint_commands.proofs.words.files_found.Goals as goal

pub returns-in-Some : goal.returns-in-Some
returns-in-Some c =
    let rows = rows_of (found_of c.args.matches.now) in
    let found : all_of (codes "files") rows ≡ Some (map (λ w. w.now) c.in-Some.words.now) =
    sym (raw_values-rows (found_of c.args.matches.now) (codes "files")) ∙ sym c.get_strs.ensures
    ∙ ap (option_map (λ s. map (λ v. v.now) s.now)) c.in-Some.is in
    IfOk-weaker c.copies.result _ _ (λ copies same. ap (λ (o : Option (List Text)). unwrap_or o []) found ∙ sym same) c.copies.ensures

pub returns-in-None : goal.returns-in-None
returns-in-None c =
    let rows = rows_of (found_of c.args.matches.now) in
    let found : all_of (codes "files") rows ≡ None =
    sym (raw_values-rows (found_of c.args.matches.now) (codes "files")) ∙ sym c.get_strs.ensures
    ∙ ap (option_map (λ s. map (λ v. v.now) s.now)) c.in-None.is in
    ap (λ (o : Option (List Text)). unwrap_or o []) found ∙ ap (map string_bytes) (sym c.new.ensures.items)
