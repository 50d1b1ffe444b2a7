use Rattle.std.proofs.Common.{ℕ, List, Bool, [], ◌∷◌, ◌++◌, if◌then◌else◌, sym, subst, ◌∙◌, slice_index}
use Rattle.std.proofs.lemmas.Result.{on_ok_weaker}
use Rattle.lint_texts.specs.LintTexts.{is_use_of}
use Rattle.lint_texts.specs.code.Uses.{Follow}
use Rattle.lint_texts.proofs.uses.Uses.put_lint.Goals as goal

pub returns-then-tells : goal.returns-then-tells
returns-then-tells c = λ told tell.
    on_ok_weaker c.put_told.result
    (λ tells v. subst (λ (b : Bool).
    Follow c.put_told.new.self.uses.items (slice_index c.put_told.new.self.heads.items v)
    ((if b then (if is_use_of v c.args.placed.lint then c.args.placed.point ∷ [] else []) else []) ++ told v)) (sym c.if-tells.true ∙ c.tells.ensures) (tells v))
    (c.put_told.ensures told tell)
