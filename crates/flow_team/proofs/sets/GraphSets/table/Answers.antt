use Rattle.std.proofs.Common.{◌≡◌, ◌↔◌, ℕ, ◌+◌, true, false, slice_index_or, sym, subst, arith}
use Rattle.flow_team.specs.Sets.{HasMayPath, IsInMaySet}
use Rattle.flow_team.proofs.sets.GraphSets.table.Goals as goal

pub table_from-requires-clause-flags : goal.table_from-requires-clause-flags
table_from-requires-clause-flags c =
    let flags = c.requires.flags in
    record {
      within = omega (arith, flags.count);
      flag = λ point there.
          let at : point ≡ 0 + point = omega arith in
          subst (λ (p : ℕ). (slice_index_or c.args.posted.flags point false ≡ true) ↔ HasMayPath c.args.self.now p) at
          (flags.flag point (omega (arith, there, flags.count)));
    }

pub table_from-requires-clause-rows : goal.table_from-requires-clause-rows
table_from-requires-clause-rows c = λ point bit.
    let at : point ≡ 0 + point = omega arith in (
      (λ has.
          let set = (c.requires.rows point bit).0 has in
          (omega (arith, set.0, c.requires.flags.count), subst (λ (p : ℕ). IsInMaySet c.args.self.now p bit) at set)),
      (λ both. (c.requires.rows point bit).1 (subst (λ (p : ℕ). IsInMaySet c.args.self.now p bit) (sym at) both.1)),
    )

pub returns-clause-table : goal.returns-clause-table
returns-clause-table c =
    let at = c.table_from.ensures.table in
    let count = c.requires.flags.count in
    record {
      points = omega (arith, at.points, count);
      bits = at.bits;
      facts = record {
        paths = λ point there. at.facts.paths point (omega arith) (omega (arith, there, count));
        sets = λ point bit there below. at.facts.sets point bit (omega arith) (omega (arith, there, count)) below;
      };
    }
