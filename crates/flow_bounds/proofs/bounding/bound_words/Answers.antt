use Rattle.std.proofs.Common.{◌≡◌, ℕ, List, [], length, slice_index, inl, inr, sym, ap, subst, ◌∙◌}
use Rattle.std.proofs.lemmas.Bool.{cases_eq}
use Rattle.bit_rows.specs.Words.{has_bit}
use Rattle.bit_rows.proofs.words.WordBits.{has_bit-max, has_bit-zero}
use Rattle.flow_bounds.specs.Clauses.{Clause, always_cell, cell_count}
use Rattle.flow_bounds.specs.Rules.{AreClosed, HasBit}
use Rattle.flow_bounds.specs.code.Frames.{Adds}
use Rattle.flow_bounds.specs.declared.rule.Rule.{Rule}
use Rattle.gk_solve.proofs.slices.Slices.{written_over}
use Rattle.flow_bounds.proofs.bounding.bound_words.Goals as goal

pub returns : goal.returns
returns c =
    let rules : c.as_slice.result.now ≡ c.put_clauses.new.rules.items = c.as_slice.ensures.value in
    let given : c.as_mut_slice.result.now ≡ c.in_ok-words.words.items = c.as_mut_slice.ensures.value in
    let grow = c.solve-closed.ensures.grow in
    let written = written_over c.in_ok-words.words.len c.solve-closed.new.words c.in_ok-words.words.items c.in_ok-words.words.ok.0 (grow.count ∙ ap length given) in
    record {
      rules = c.as_slice.result.now;
      given = c.as_mut_slice.result.now;
      tells = subst (λ (r : List Rule). Adds (cell_count c.args.frame.now) (Clause c.args.frame.now) [] r) (sym rules)
          (subst (λ (old : List Rule). Adds (cell_count c.args.frame.now) (Clause c.args.frame.now) old c.put_clauses.new.rules.items) c.clear.ensures.items
          c.in_ok-put_clauses.ensures);
      only = λ bit cell has. elim (cases_eq cell (always_cell c.args.frame.now)) [
        | inl same ↦ same
        | inr other ↦ absurd (cc (sym (has_bit-zero bit)
            ∙ (ap (λ w. has_bit w bit) (sym (ap (λ (l : List ℕ). slice_index l cell) given ∙ c.in_ok-words.ensures.others cell other)) ∙ has)))
      ];
      count = ap length written ∙ (grow.count ∙ (ap length given ∙ c.in_ok-words.ensures.count));
      always = λ bit small. subst (λ (w : List ℕ). HasBit w (always_cell c.args.frame.now) bit) (sym written)
          (grow.bits (always_cell c.args.frame.now) bit
          (ap (λ w. has_bit w bit) (ap (λ (l : List ℕ). slice_index l (always_cell c.args.frame.now)) given ∙ c.in_ok-words.ensures.all) ∙ has_bit-max bit small));
      follows = λ cell bit has. c.solve-closed.ensures.follows cell bit (subst (λ (w : List ℕ). HasBit w cell bit) written has);
      closed = λ is. subst (λ (w : List ℕ). AreClosed c.as_slice.result.now w) (sym written) (c.solve-closed.ensures.closed is);
    }
