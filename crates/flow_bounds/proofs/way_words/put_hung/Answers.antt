use Rattle.std.proofs.Common.{slice_index, sym, subst}
use native.Mathlib.Decide.{ℕ_discrete}
use mathlib.Core.Logic.{dite}
use Rattle.flow_bounds.specs.code.Exact.{IsHungWord}
use Rattle.flow_bounds.proofs.way_words.put_hung.Goals as goal

pub returns-then-procedure-hung-clause-each : goal.returns-then-procedure-hung-clause-each
returns-then-procedure-hung-clause-each c p =
    dite (ℕ_discrete p c.args.procedure)
    (λ same.
    subst (λ q. IsHungWord c.args.frame.now q (slice_index c.put_word.new.words q)) (sym same)
    (subst (λ w. IsHungWord c.args.frame.now c.args.procedure w) (sym c.put_word.ensures.here)
    (λ transfer bit small exact has. (c.requires.entered, c.requires.word transfer bit small exact has))))
    (λ other. subst (λ w. IsHungWord c.args.frame.now p w) (sym (c.put_word.ensures.others p other)) (c.requires.before p))
