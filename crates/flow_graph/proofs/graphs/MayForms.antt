-- The tables of the four analyses are those of their may forms
use Rattle.std.proofs.Common.{◌≡◌, if◌then◌else◌, refl}
use Rattle.flow_graph.specs.Analyses.{is_backward, shape_of, transfer_of}
use Rattle.flow_graph.specs.Problems.{may_transfer, may_gens, may_kills, may_boundary}
use Rattle.flow_graph.specs.Reversals.{reversed_shape, reversed_transfer}
use Rattle.flow_graph.specs.ProgramLaws.{FlagsAreMayForms, MayTablesAreMayForms, MustTablesAreMayForms, StepsHaveStatements}
use Rattle.flow_graph.specs.Universes.{Analysis, Reach, Live, Avail, Busy}
use Rattle.flow_graph.proofs.paths.Reversal.{meets_reverse}
use Rattle.flow_graph.proofs.paths.Complement.{meets_complement}

pub flags_are_may_forms : FlagsAreMayForms
flags_are_may_forms program Reach point = (λ has. has, λ has. has)
flags_are_may_forms program Avail point = (λ has. has, λ has. has)
flags_are_may_forms program Live point = (meets_reverse (shape_of program) (transfer_of program Live 0) point).0
flags_are_may_forms program Busy point = (meets_reverse (shape_of program) (transfer_of program Busy 0) point).0

pub may_tables_are_may_forms : MayTablesAreMayForms
may_tables_are_may_forms program Reach point bit may = (λ has. has, λ has. has)
may_tables_are_may_forms program Live point bit may = (meets_reverse (shape_of program) (transfer_of program Live bit) point).1
may_tables_are_may_forms program Avail point bit may = absurd (cc may)
may_tables_are_may_forms program Busy point bit may = absurd (cc may)

pub must_tables_are_may_forms : MustTablesAreMayForms
must_tables_are_may_forms program Reach point bit must = absurd (cc must)
must_tables_are_may_forms program Live point bit must = absurd (cc must)
must_tables_are_may_forms program Avail point bit must = (meets_complement (shape_of program) (transfer_of program Avail bit) point).0
must_tables_are_may_forms program Busy point bit must =
    let reversed = (meets_reverse (shape_of program) (transfer_of program Busy bit) point).2 in
    let complemented = (meets_complement (reversed_shape (shape_of program)) (reversed_transfer (transfer_of program Busy bit)) point).0 in
    (λ every. complemented.0 (reversed.0 every), λ none. reversed.1 (complemented.1 none))

pub steps_have_statements : StepsHaveStatements
steps_have_statements form x y bit = by_analysis form.analysis
  where
    by_analysis : (analysis : Analysis)
        → ((may_transfer form.program analysis bit).gen x y
        ≡ may_gens (record { program = form.program; analysis = analysis }) (if is_backward analysis then y else x) bit)
        × ((may_transfer form.program analysis bit).kill x y
        ≡ may_kills (record { program = form.program; analysis = analysis }) (if is_backward analysis then y else x) bit)
        × ((may_transfer form.program analysis bit).boundary ≡ may_boundary (record { program = form.program; analysis = analysis }) bit)
    by_analysis Reach = (refl, refl, refl)
    by_analysis Live = (refl, refl, refl)
    by_analysis Avail = (refl, refl, refl)
    by_analysis Busy = (refl, refl, refl)
