use Rattle.std.proofs.Common.{◌+◌, ◌*◌, ◌/◌, subst, sym, arith, ◌∙◌, subst₂, ℕ}
use Rattle.flow_rows.specs.code.Rows.{TellsBelow}
use Rattle.flow_rows.proofs.words.RowWords.{tells_all}
use Rattle.flow_rows.proofs.rows.solve_words.Goals as goal

pub solve_each-requires : goal.solve_each-requires
solve_each-requires c =
    let generated = c.in_ok-slice.ensures in
    let tells = c.requires.tells in
    record {
      routes = c.requires.routes;
      slice = generated.slice;
      ready = (tells.count, tells.same_lo ∙ sym generated.range.0, tells.same_hi ∙ sym generated.range.1);
      begun = subst₂ (λ (lo hi : ℕ). TellsBelow c.args.solver.now (64 * (lo / 64)) lo hi c.args.rows) (sym generated.range.0) (sym generated.range.1) tells;
    }

pub returns : goal.returns
returns c =
    let form = c.args.solver.now in
    let generated = c.in_ok-slice.ensures in
    let slice = c.in_ok-slice.slice in
    let rows = c.solve_each.new.taker.rows in
    tells_all form (64 * ((slice.hi + 63) / 64)) c.args.lo c.args.hi rows (λ _. omega (arith, generated.range.1))
    (subst (λ lo. TellsBelow form (64 * ((slice.hi + 63) / 64)) lo c.args.hi rows) generated.range.0
    (subst (λ hi. TellsBelow form (64 * ((slice.hi + 63) / 64)) slice.lo hi rows) generated.range.1 c.solve_each.ensures))
