use Rattle.std.proofs.Common.{◌≡◌, replicate, sym, ap, ◌∙◌, subst, rules}
use Rattle.bit_rows.specs.RowSet.{empty_set}
use Rattle.bit_rows.specs.Words.{word_count}
use Rattle.bit_rows.proofs.rows.WordRows.{HoldSet, HoldSet-zeros}
use Rattle.bit_rows.proofs.one_row.Row.empty.Goals as goal

zeros : (c : goal.In_ok-words) → c.in_ok-words.words.items ≡ replicate (word_count c.args.lo c.args.hi) 0
zeros c = c.in_ok-words.ensures.items_if_clones_equal (λ y h. search rules) ∙ ap (λ n. replicate n 0) c.words_needed.ensures

held : (c : goal.In_ok-words) → HoldSet (empty_set c.args.lo c.args.hi) c.args.lo c.args.hi c.in_ok-words.words.items
held c = subst (λ ws. HoldSet (empty_set c.args.lo c.args.hi) c.args.lo c.args.hi ws) (sym (zeros c)) (HoldSet-zeros c.args.lo c.args.hi c.requires)

pub invariant_of-result : goal.invariant_of-result
invariant_of-result c = (held c).well_formed

pub returns-clause-value : goal.returns-clause-value
returns-clause-value c = (held c).held
