use Rattle.std.proofs.Common.{ℕ, List, [], ◌++◌, take, get_or, nat_lt, codes, unwrap_or, if◌then◌else◌, ap, sym}
use Rattle.text_pieces.proofs.sinks.Taking.{takes_as}
use Rattle.tac_listing.specs.Listings.{callees_text, names_in}
use Rattle.tac_program.specs.Names.{name_at}
use Rattle.tac_program.specs.Names.{Names}
use Rattle.text_pieces.specs.Strings.{escaped}
use Rattle.text_pieces.proofs.sinks.Escapes.{escaped_if, shows_then}
use Rattle.tac_listing.proofs.layouts.StatementNames.{callees_more}
use Rattle.tac_listing.proofs.scope.Scope.write_callees.Goals as goal

pub loop-place-preserved : goal.loop-place-preserved
loop-place-preserved g c =
    let names : Names = names_in c.args.self.now.program.now c.args.self.now.procedure in
    let callees : List ℕ = c.args.callees.now in
    let i : ℕ = c.loop-place.place in
    let before : List ℕ = callees_text names (take i callees) in
    let between : List ℕ = if nat_lt 0 i then codes " | " else [] in
    let name : List ℕ = name_at names.procedures (get_or callees i 0) in
    takes_as _ _ _ _
    (shows_then (before ++ between) name _ _ _
    (shows_then before between _ _ _ c.loop-place.invariant (takes_as _ _ _ _ c.write_if.ensures (escaped_if (nat_lt 0 i))))
    (takes_as _ _ _ _ c.write_escaped.ensures (ap escaped (sym (ap (λ o. unwrap_or o []) c.procedure.ensures)))))
    (ap escaped (callees_more names callees i c.loop-place-test.true))
