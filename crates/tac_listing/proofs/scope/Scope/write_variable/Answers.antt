use Rattle.std.proofs.Common.{[], unwrap_or, ap, sym}
use Rattle.text_pieces.proofs.sinks.Taking.{takes_as}
use Rattle.text_pieces.specs.Strings.{escaped}
use Rattle.tac_listing.proofs.scope.Scope.write_variable.Goals as goal

pub returns : goal.returns
returns g c = takes_as _ _ _ _ c.write_escaped.ensures (ap escaped (sym (ap (λ o. unwrap_or o []) c.variable.ensures)))
