use Rattle.std.proofs.Common.{◌≡◌, length, ap, rules}
use Rattle.lint_texts.specs.declared.uses.Use.{Use}
use Rattle.lint_texts.proofs.Linked.{put_told}
use Rattle.lint_texts.proofs.uses.Uses.put_use.Goals as goal

pub returns : goal.returns
returns c = λ told tell.
    let self = c.args.self.now in
    let last : Use = record { point = c.args.point; next = c.head-next.result } in
    let counted : c.len.result ≡ length c.push.new.self.items = search rules in
    put_told self.uses.items c.push.new.self.items self.heads.items c.reach.new.heads.items c.args.variable c.args.point c.len.result last told tell
    c.in_ok-reach.ensures.same c.in_ok-reach.ensures.long c.in_ok-push.ensures.items counted
    (ap (λ n. record { point = c.args.point; next = n }) c.head-next.ensures)
