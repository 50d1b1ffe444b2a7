use Rattle.std.proofs.Common.{◌≡◌, ◌++◌, ℕ, Bool, true, false, List, length, codes, if◌then◌else◌, sym, ap, ◌∙◌}
use Rattle.point_sets.specs.SetLines.{fits}
use Rattle.point_sets.specs.code.Lines.{name_on}
use Rattle.point_sets.specs.declared.lines.Line.{Line}
use Rattle.text_pieces.proofs.sinks.Taking.{takes_as, takes_then}
use Rattle.point_sets.proofs.lines.Line.write_behind.Goals as goal

-- where a name stands
placed : (line : Line) (name : List ℕ) (b : Bool) → line.others ≡ true → fits line.column (length name) ≡ b
    → (if b then codes ", " ++ name else codes ",\\l  " ++ name) ≡ name_on line name
placed line name b others fit =
    sym (ap (λ o. if o then (if fits line.column (length name) then codes ", " ++ name else codes ",\\l  " ++ name) else name) others
    ∙ ap (λ f. if f then codes ", " ++ name else codes ",\\l  " ++ name) fit)

pub returns-then-fits-clause-writes : goal.returns-then-fits-clause-writes
returns-then-fits-clause-writes g c =
    takes_as _ _ _ _ (takes_then _ _ _ _ _ c.write.ensures c.write-then-fits.ensures)
    (placed c.args.self c.args.name.now true c.requires.others (sym c.fits.ensures ∙ c.if-fits.true))

pub returns-clause-writes : goal.returns-clause-writes
returns-clause-writes g c =
    takes_as _ _ _ _ (takes_then _ _ _ _ _ c.write-2.ensures c.write-3.ensures)
    (placed c.args.self c.args.name.now false c.requires.others (sym c.fits.ensures ∙ c.if-fits.false))
