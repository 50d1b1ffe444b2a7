use Rattle.std.proofs.Common.{◌≡◌, ◌↔◌, ◌∙◌, ℕ, ◌+◌, ◌<◌, ◌≤◌, sym, ap, subst, arith}
use Rattle.bit_rows.specs.Slices.{Slices, start_of, end_of}
use Rattle.bit_rows.proofs.slices.Cuts.{end_le_bits}
use Rattle.flow_graph.specs.Points.{point_count}
use Rattle.flow_graph.specs.Problems.{MayForm}
use Rattle.flow_graph.specs.Universes.{bits}
use Rattle.flow_team.specs.Sets.{IsInColumns, whole}
use Rattle.gen_kill.specs.Selections.{Selection, column_count}
use Rattle.slice_board.specs.Boards.{slice_count}
use Rattle.flow_team.proofs.sets.GraphSets.post_slice_from.Goals as goal

pub slice-requires-clause-within : goal.slice-requires-clause-within
slice-requires-clause-within g c =
    let same = c.cut-cut.ensures in
    let there = subst (λ (cut : Slices). c.args.slice < slice_count cut) (sym same) c.requires.there in
    let most = end_le_bits c.cut-cut.result.now c.slices.ensures.cover c.args.slice there in
    omega (
      arith,
      most,
      c.range-lo.ensures.end,
      ap (λ (cut : Slices). cut.bits) same,
      c.requires.bits,
      ap (λ (form : MayForm). bits form.program form.analysis) c.self.view_is,
      ap column_count c.self.invariant.0,
    )

pub post_slice_words-requires-clause-ready : goal.post_slice_words-requires-clause-ready
post_slice_words-requires-clause-ready g c =
    let ready = c.requires.ready in
    let same = c.cut-cut.ensures in
    let there = subst (λ (cut : Slices). c.args.slice < slice_count cut) (sym same) c.requires.there in
    let most = end_le_bits c.cut-cut.result.now c.slices.ensures.cover c.args.slice there in
    let form_is : whole c.args.self.now ≡ c.self.inside.solver = ap whole (sym c.self.view_is) ∙ c.self.invariant.0 in
    record {
      wants = subst
          (λ (s : Selection). (point bit : ℕ) → g.W.Wanted.wants c.args.board.now.wanted point bit
          ↔ ((point < c.args.count) × IsInColumns s (c.args.first + point) bit))
          form_is ready.wants;
      points = ready.points;
      there = subst (λ (s : Selection). c.args.first + c.args.count ≤ point_count s.program) form_is ready.there;
      within = omega (arith, most, c.range-lo.ensures.end, ap (λ (cut : Slices). cut.bits) same, c.in_ok-words.ensures.range.1);
      of = ready.of;
    }

pub returns-clause-whole : goal.returns-clause-whole
returns-clause-whole g c = λ point bit want inside.
    let same = c.cut-cut.ensures in
    let range = c.in_ok-words.ensures.range in
    c.post_slice_words.ensures.posted point bit want
    (omega (arith, range.0, inside.0, c.range-lo.ensures.start, ap (λ (cut : Slices). start_of cut c.args.slice) same))
    (omega (arith, range.1, inside.1, c.range-lo.ensures.end, ap (λ (cut : Slices). end_of cut c.args.slice) same))
    (omega (arith, range.1, inside.1, c.range-lo.ensures.end, ap (λ (cut : Slices). end_of cut c.args.slice) same))
