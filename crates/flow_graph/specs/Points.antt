-- The points of a program: one before each statement of a procedure, and one at the procedure's end (Aho, Lam, Sethi,
-- Ullman, 2nd edition, 9.2.1). They are numbered through: procedures in text order, in each the places upwards.
use Rattle.std.specs.Prelude.{ℕ, suc, ◌+◌, ◌-◌, List, [], ◌∷◌, length, take, Option, option_map, slice_get, unwrap_or, nat_lt, if◌then◌else◌}
use Rattle.std.specs.List.{sum_by, range_with_len}
use Rattle.tac_program.specs.Programs.{Procedure, Program}
use Rattle.tac_program.specs.declared.program.Stmt.{Stmt}
use Rattle.tac_program.specs.declared.program.StmtKind.{StmtKind}
pub use Rattle.flow_graph.specs.declared.place.Place.{Place}

-- how many points a procedure has: one before each statement, and its end
abbrev pub size_of : Procedure → ℕ
size_of p = suc (length p.statements)

-- how many points there are, and how many before those of a procedure
abbrev pub point_count : Program → ℕ
point_count program = sum_by size_of program.procedures

abbrev pub first_point : Program → ℕ → ℕ
first_point program procedure = sum_by size_of (take procedure program.procedures)

-- the number of a place's point: the place of a statement is how many statements of its procedure stand before it
abbrev pub point_of : Program → ℕ → ℕ → ℕ
point_of program procedure place = first_point program procedure + place

-- all points in order
abbrev pub points : Program → List ℕ
points program = range_with_len 0 (point_count program)

-- the procedure and the place of a point, found by passing over the procedures before it
abbrev pub place_among : ℕ → List Procedure → ℕ → Place
place_among procedure [] point = record { procedure = procedure; place = point }
place_among procedure (p ∷ others) point =
    if nat_lt point (size_of p) then record { procedure = procedure; place = point } else place_among (suc procedure) others (point - size_of p)

abbrev pub place_of : Program → ℕ → Place
place_of program point = place_among 0 program.procedures point

-- a procedure's statements, and how many there are, which is the place of its end
abbrev pub statements_of : Program → ℕ → List Stmt
statements_of program procedure = unwrap_or (option_map (λ p. p.statements) (slice_get program.procedures procedure)) []

abbrev pub end_place : Program → ℕ → ℕ
end_place program procedure = length (statements_of program procedure)

-- the first point of a procedure, and its last
abbrev pub entry_point : Program → ℕ → ℕ
entry_point program procedure = point_of program procedure 0

abbrev pub end_point : Program → ℕ → ℕ
end_point program procedure = point_of program procedure (end_place program procedure)

-- the procedure of a point
abbrev pub procedure_at : Program → ℕ → ℕ
procedure_at program point = (place_of program point).procedure

-- the statement before which a point stands, or none at a procedure's end
abbrev pub statement_at : Program → ℕ → Option Stmt
statement_at program point = slice_get (statements_of program (procedure_at program point)) (place_of program point).place

abbrev pub kind_at : Program → ℕ → Option StmtKind
kind_at program point = option_map (λ s. s.kind) (statement_at program point)
