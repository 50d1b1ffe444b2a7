use Rattle.std.proofs.Common.{rules, ◌≡◌, ◌∙◌, true, None, get_or, is_none, ap, sym}
use Rattle.std.proofs.lemmas.List.{get_or_default}
use Rattle.doubt_origins.proofs.traces.Tracing.{none_is_told, origin_more}
use Rattle.doubt_origins.proofs.tracing.know_origin.Goals as goal

pub returns-in_ok-push-clause-known : goal.returns-in_ok-push-clause-known
returns-in_ok-push-clause-known c =
    let none : is_none c.index.result.now ≡ true = search rules in
    let read : c.index.result.now ≡ get_or c.args.origins.now.items c.args.point None =
    c.index.ensures ∙ get_or_default c.args.origins.now.items c.args.point _ None c.requires in
    origin_more c.args.origins.now.items c.args.point c.unwrap_or.result c.args.work.now.items c.push.new.self.items c.requires
    (none_is_told (get_or c.args.origins.now.items c.args.point None) (ap is_none (sym read) ∙ none)) c.in_ok-push.ensures.items
