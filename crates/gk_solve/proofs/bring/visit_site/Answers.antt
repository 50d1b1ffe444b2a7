use Rattle.std.proofs.Common.{◌<◌, ◌≡◌, ◌⊎◌, inl, inr, ℕ, length, List, arith, ap, subst, sym}
use Rattle.std.proofs.lemmas.Bool.{cases_eq}
use Rattle.worklist.specs.Worklist.{IsMarked}
use Rattle.gk_solve.specs.Tables.Brought.{brought_word}
use Rattle.gk_solve.specs.Tables.Groups.{group_of}
use Rattle.gk_solve.proofs.visits.BroughtVisits.{site_settled}
use Rattle.gk_solve.proofs.edges.GroupLemmas.{brings_bits, brings_of}
use Rattle.gk_solve.proofs.visits.SummaryVisits.{has_size}
use Rattle.gk_solve.proofs.bring.visit_site.Goals as goal

pub put_brought-requires : goal.put_brought-requires
put_brought-requires g c =
    let is = c.requires.frame in
    let narrow = is.narrow in
    let there = c.requires.there in
    let point_within : c.args.site.point < length c.args.table.now = omega (arith, c.requires.within.0, c.requires.points) in
    let procedure_within : c.args.procedure < length c.args.brought.now = omega (arith, c.requires.inside, c.requires.count) in (
      has_size g.row.W narrow,
      (
        omega (arith, narrow),
        (
          c.requires.count,
          (
            c.requires.dirty_count,
            (
              c.requires.within.1,
              brings_of g.row.W c.args.frame.now is c.args.table.now c.args.brought.now c.args.procedure c.args.site there.3 point_within
                  procedure_within c.index-table-site.result c.index-brought-procedure.result c.index-table-site.is c.index-brought-procedure.is
                  c.new_or_preserved-more.result c.new_or_preserved-more.ensures there c.if-not-frame-site.false c.requires.summaries c.requires.sound,
            ),
          ),
        ),
      ),
    )

pub returns-clause-settled : goal.returns-clause-settled
returns-clause-settled g c =
    let is = c.requires.frame in
    let there = c.requires.there in
    let point_within : c.args.site.point < length c.args.table.now = omega (arith, c.requires.within.0, c.requires.points) in
    let procedure_within : c.args.procedure < length c.args.brought.now = omega (arith, c.requires.inside, c.requires.count) in
    let same : ((w : ℕ) → brought_word c.put_brought.new.brought w c.args.procedure ≡ brought_word c.args.brought.now w c.args.procedure)
    ⊎ IsMarked c.put_brought.new.dirty c.args.procedure =
    elim (cases_eq c.args.procedure c.args.site.callee) [
      | inr other ↦ inl (λ w. c.put_brought.ensures.same w c.args.procedure other)
      | inl here ↦ elim c.put_brought.ensures.still [
        | inl still ↦ inl (λ w. ap (λ (rows : List (List ℕ)). brought_word rows w c.args.procedure) still)
        | inr marked ↦ inr (subst (IsMarked c.put_brought.new.dirty) (sym here) marked)
      ]
    ] in
    site_settled (group_of c.args.frame.now g.row.W) c.args.frame.now.paths.now c.args.table.now c.args.brought.now c.put_brought.new.brought
    c.put_brought.new.dirty
    c.args.site c.args.procedure c.new_or_preserved-more.result there.3
    (brings_bits g.row.W c.args.frame.now is c.args.table.now c.args.brought.now c.args.procedure c.args.site there.3 point_within procedure_within
    c.index-table-site.result c.index-brought-procedure.result c.index-table-site.is c.index-brought-procedure.is
    c.new_or_preserved-more.result c.new_or_preserved-more.ensures)
    c.put_brought.ensures.added same
