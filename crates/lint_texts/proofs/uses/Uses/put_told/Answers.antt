use Rattle.std.proofs.Common.{ℕ, List, Option, [], ◌∷◌, ◌++◌, false, if◌then◌else◌, nat_eq, ap, subst, slice_index}
use Rattle.std.specs.Option.{option_map_or}
use Rattle.std.proofs.lemmas.Result.{on_ok_weaker}
use Rattle.lint_texts.specs.code.Uses.{Follow}
use Rattle.lint_texts.proofs.uses.Uses.put_told.Goals as goal

pub returns-in-Some : goal.returns-in-Some
returns-in-Some c = λ told tell.
    on_ok_weaker c.put_use.result
    (λ tells v. subst (λ (o : Option ℕ).
    Follow c.put_use.new.self.uses.items (slice_index c.put_use.new.self.heads.items v)
    ((if option_map_or (λ other. nat_eq other v) o false then c.args.placed.point ∷ [] else []) ++ told v)) c.in-Some.ensures (tells v))
    (c.put_use.ensures told tell)
