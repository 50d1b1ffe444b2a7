use Rattle.std.proofs.Common.{◌≡◌, ◌↔◌, ◌∙◌, true, length, sym, ap, subst, arith}
use Rattle.bit_rows.specs.RowSet.{contains}
use Rattle.bit_rows.specs.RowTable.{set_at}
use Rattle.flow_team.specs.code.Excerpts.{IsInExcerpt, Excerpt}
use Rattle.flow_team.proofs.excerpts.ExcerptSets.table.Goals as goal

pub table_from-requires-clause-rows : goal.table_from-requires-clause-rows
table_from-requires-clause-rows c = λ point bit.
    let is = sym c.self.view_is in
    let count : length c.args.posted.flags ≡ c.self.inside.count = c.requires.count ∙ ap (λ (excerpt : Excerpt). excerpt.count) is in
    let solved = subst (λ (excerpt : Excerpt). (contains (set_at c.args.posted point) bit ≡ true) ↔ IsInExcerpt excerpt point bit) is
    (c.requires.rows point bit) in (
      (λ has. let set = solved.0 has in (omega (arith, set.0, count), set.1)),
      (λ both. solved.1 (omega (arith, both.0, count), both.1)),
    )
