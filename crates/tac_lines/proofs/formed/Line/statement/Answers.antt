use Rattle.std.proofs.Common.{◌≤◌, ◌*◌, [], length, rules}
use Rattle.tac_lines.proofs.forms.FormedLines.{twice_within, left_is, left_formed}
use Rattle.tac_lines.proofs.formed.Line.statement.Goals as goal

pub slice_bounds-result-start : goal.slice_bounds-result-start
slice_bounds-result-start c =
    let line = c.args.self.now in
    let within : 2 * line.labels ≤ length line.tokens.now = twice_within [] line.tokens.now line.labels (line.counted []) in
    search rules

pub slice_bounds-result-count : goal.slice_bounds-result-count
slice_bounds-result-count c = let line = c.args.self.now in twice_within [] line.tokens.now line.labels (line.counted [])

pub invariant_of-result : goal.invariant_of-result
invariant_of-result c =
    let line = c.args.self.now in
    record { formed = λ text. left_formed text line.tokens.now line.labels (line.counted text) line.form (line.formed text) }

pub returns : goal.returns
returns c text = let line = c.args.self.now in left_is text line.tokens.now line.labels (line.counted text)
