use Rattle.std.proofs.Common.{sym, ◌∙◌}
use Rattle.tac_lines.proofs.tokens.Fronts.{two_at, one_at, none_at, no_pair, too_few, BeginsNoRun}
use Rattle.tac_lines.proofs.piece.front.Goals as goal
use Rattle.tac_lines.proofs.piece.front.Goals.{then-rest-gt1+in_default, else-rest-gt1}

pub returns-in-Some-pair-clause-piece : goal.returns-in-Some-pair-clause-piece
returns-in-Some-pair-clause-piece c =
    let out : BeginsNoRun c.in-Some.first.now = record {
      letter = sym c.starts_name.ensures ∙ c.if-starts_name.false;
      digit = sym c.is_ascii_digit.ensures.value ∙ c.if-is_ascii_digit.false;
      hash = c.if-first-eq35.false;
    } in
    two_at c.args.rest.now c.in-Some.first.now c.in-Some-pair.kind c.in-Some.ensures.value c.if-rest-gt1.true out c.in-Some-pair.ensures

pub returns-in-Some-single-clause-piece : goal.returns-in-Some-single-clause-piece
returns-in-Some-single-clause-piece c =
    let out : BeginsNoRun c.in-Some.first.now = record {
      letter = sym c.starts_name.ensures ∙ c.if-starts_name.false;
      digit = sym c.is_ascii_digit.ensures.value ∙ c.if-is_ascii_digit.false;
      hash = c.if-first-eq35.false;
    } in
    elim c.if-rest-gt1.branch [
      | then-rest-gt1+in_default w ↦ one_at c.args.rest.now c.in-Some.first.now c.in-Some-single.kind c.in-Some.ensures.value out
          (no_pair c.args.rest.now c.in-Some.first.now w.pair.result w.in_default.not-Some w.pair.ensures) c.in-Some-single.ensures
      | else-rest-gt1 w ↦ one_at c.args.rest.now c.in-Some.first.now c.in-Some-single.kind c.in-Some.ensures.value out
          (too_few c.args.rest.now c.in-Some.first.now w.if-rest-gt1.false) c.in-Some-single.ensures
    ]

pub returns-in-None-single-clause-piece : goal.returns-in-None-single-clause-piece
returns-in-None-single-clause-piece c =
    let out : BeginsNoRun c.in-Some.first.now = record {
      letter = sym c.starts_name.ensures ∙ c.if-starts_name.false;
      digit = sym c.is_ascii_digit.ensures.value ∙ c.if-is_ascii_digit.false;
      hash = c.if-first-eq35.false;
    } in
    elim c.if-rest-gt1.branch [
      | then-rest-gt1+in_default w ↦ none_at c.args.rest.now c.in-Some.first.now c.in-Some.ensures.value out
          (no_pair c.args.rest.now c.in-Some.first.now w.pair.result w.in_default.not-Some w.pair.ensures) (sym c.in-None-single.ensures)
      | else-rest-gt1 w ↦ none_at c.args.rest.now c.in-Some.first.now c.in-Some.ensures.value out
          (too_few c.args.rest.now c.in-Some.first.now w.if-rest-gt1.false) (sym c.in-None-single.ensures)
    ]
