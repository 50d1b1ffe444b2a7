use Rattle.std.proofs.Common.{◌∙◌, All, arith, ap, bytes_eq, position, subst, sym}
use Rattle.std.proofs.lemmas.Grind.{common_steps}
use Rattle.tac_reader.specs.code.Occurrences.{IsNumberedIn}
use Rattle.tac_reader.specs.declared.occurrences.NotedVariables.{NotedVariables}
use Rattle.tac_reader.proofs.known_names.KeptNumbers.{numbered_more}
use Rattle.tac_reader.proofs.procedure.note_names.Goals as goal
use Rattle.tac_reader.proofs.procedure.note_names.Goals.{then-eq+in_ok-number+in_ok-push, else-eq}

pub loop-token-preserved : goal.loop-token-preserved
loop-token-preserved c =
    let text = c.args.text.now in
    elim c.if-eq.branch [
      | then-eq+in_ok-number+in_ok-push w ↦ record {
        rest = grind (arith, common_steps);
        numbered = numbered_more text c.loop-token.variables.table c.if-eq.variables.table w.bytes.result.now c.loop-token.variables.occurrences.items
            c.if-eq.variables.occurrences.items _
            (ap (λ (v : NotedVariables). v.table) w.variables-is ∙ w.in_ok-number.ensures.noted)
            (ap (λ (v : NotedVariables). v.occurrences.items) w.variables-is ∙ w.in_ok-push.ensures.items) w.bytes.ensures
            (ap (λ (v : NotedVariables). position (bytes_eq w.bytes.result.now) v.table) w.variables-is ∙ w.in_ok-number.ensures.number)
            c.loop-token.invariant.numbered;
      }
      | else-eq w ↦ record {
        rest = grind (arith, common_steps);
        numbered = subst (λ (v : NotedVariables). All (IsNumberedIn text v.table) v.occurrences.items) (sym w.variables-is)
            c.loop-token.invariant.numbered;
      }
    ]
