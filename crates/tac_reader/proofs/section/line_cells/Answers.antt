use Rattle.std.proofs.Common.{◌∙◌, ◌++◌, ap, sym, append-nil}
use Rattle.tac_lines.specs.Forms.{behind_labels, cells_of, in_slot}
use Rattle.tac_lines.specs.code.Roles.{role_test}
use Rattle.tac_lines.specs.code.Views.{tokens_view}
use Rattle.tac_reader.proofs.section.line_cells.Goals as goal

pub returns-then-not-plays-clause-appended : goal.returns-then-not-plays-clause-appended
returns-then-not-plays-clause-appended c text r =
    let found = tokens_view text c.args.found.now.items in
    sym (append-nil found) ∙ ap (λ cells. found ++ cells) (sym (c.plays.ensures text r c.if-not-plays.true))

pub returns-clause-appended : goal.returns-clause-appended
returns-clause-appended c text r =
    c.in_ok-cells.ensures.appended text
    ∙ ap (λ ts. tokens_view text c.args.found.now.items ++ in_slot (role_test c.args.role) (cells_of ts))
    (c.statement.ensures text ∙ ap (λ ts. behind_labels (tokens_view text ts)) (c.line.ensures r))
