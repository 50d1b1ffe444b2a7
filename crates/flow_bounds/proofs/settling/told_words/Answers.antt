use Rattle.flow_bounds.proofs.settling.told_words.Goals as goal

pub put_words-requires-clause-touches : goal.put_words-requires-clause-touches
put_words-requires-clause-touches c = record {
  marks = c.args.shared.base.now.marked.items;
  are_marked = c.requires.marked;
  are_touches = c.requires.shared.base.touches;
}
