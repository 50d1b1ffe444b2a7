use Rattle.std.proofs.Common.{List, ℕ, ◌++◌, ◌∙◌, codes, ap, sym}
use Rattle.text_pieces.proofs.sinks.Taking.{takes_as}
use Rattle.json_statements.specs.Parts.{callees_field, kind_field, statement_parts}
use Rattle.json_statements.proofs.statements.write_statement_parts.Goals as goal

pub returns-in-Copy : goal.returns-in-Copy
returns-in-Copy g c = takes_as _ _ _ _ c.write_copy.ensures (sym (ap statement_parts c.in-Copy.is))

pub returns-in-Unary : goal.returns-in-Unary
returns-in-Unary g c = takes_as _ _ _ _ c.write_assignment.ensures (sym (ap statement_parts c.in-Unary.is))

pub returns-in-Binary : goal.returns-in-Binary
returns-in-Binary g c = takes_as _ _ _ _ c.write_assignment-in-Binary.ensures (sym (ap statement_parts c.in-Binary.is))

pub returns-in-Goto : goal.returns-in-Goto
returns-in-Goto g c = takes_as _ _ _ _ c.write_bare.ensures (sym (ap statement_parts c.in-Goto.is))

pub returns-in-If : goal.returns-in-If
returns-in-If g c = takes_as _ _ _ _ c.write_use.ensures (sym (ap statement_parts c.in-If.is))

pub returns-in-IfFalse : goal.returns-in-IfFalse
returns-in-IfFalse g c = takes_as _ _ _ _ c.write_use-in-IfFalse.ensures (sym (ap statement_parts c.in-IfFalse.is))

pub returns-in-IfCompare : goal.returns-in-IfCompare
returns-in-IfCompare g c = takes_as _ _ _ _ c.write_comparison.ensures (sym (ap statement_parts c.in-IfCompare.is))

pub returns-in-Call : goal.returns-in-Call
returns-in-Call g c =
    takes_as _ _ _ _ c.write_call.ensures
    (ap (λ (callees : List ℕ). kind_field (codes "call") ++ callees_field callees ++ codes "}") c.as_slice.ensures.procedures
    ∙ sym (ap statement_parts c.in-Call.is))

pub returns-in-Return : goal.returns-in-Return
returns-in-Return g c = takes_as _ _ _ _ c.write_bare-in-Return.ensures (sym (ap statement_parts c.in-Return.is))

pub returns-in-Read : goal.returns-in-Read
returns-in-Read g c = takes_as _ _ _ _ c.write_read.ensures (sym (ap statement_parts c.in-Read.is))

pub returns-in-Print : goal.returns-in-Print
returns-in-Print g c = takes_as _ _ _ _ c.write_use-in-Print.ensures (sym (ap statement_parts c.in-Print.is))

pub returns-in-Skip : goal.returns-in-Skip
returns-in-Skip g c = takes_as _ _ _ _ c.write_bare-in-Skip.ensures (sym (ap statement_parts c.in-Skip.is))
