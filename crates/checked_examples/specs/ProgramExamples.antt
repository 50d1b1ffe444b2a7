-- Small programs, each by its text, the sets of their bits as lists, and what makes them the shapes that are written by hand.
use Rattle.std.specs.Prelude.{◌≡◌, ℕ, Bool, List, filter, map, codes}
use Rattle.std.specs.List.{range_with_len}
use Rattle.tac_program.specs.Programs.{Program}
use Rattle.tac_reader.specs.Parses.{program_of}
use Rattle.flow_graph.specs.Analyses.{shape_of, transfer_of}
use Rattle.flow_graph.specs.Paths.{Shape, Transfer}
use Rattle.flow_graph.specs.Points.{point_count}
use Rattle.flow_graph.specs.Universes.{bits}
use Rattle.flow_graph.specs.declared.analysis.Analysis.{Analysis}
use Rattle.flow_graph.specs.Transfers.{gens, kills, is_in_boundary}

-- points 0 to 6 of main and 7, 8 of p
abbrev pub calls_twice : Program
calls_twice = program_of (codes "proc main\na = 1\ncall p\nprint a\na = 2\ncall p\nprint a\nend\nproc p\nskip\nend\n")

-- points 0 to 3 of main and 4 to 7 of f
abbrev pub calls_itself : Program
calls_itself = program_of (codes "proc main\nx = 1\ncall f\nprint x\nend\nproc f\nif x goto L\ncall f\nx = 2\nL:\nend\n")

abbrev pub adds_to_itself : Program
adds_to_itself = program_of (codes "proc main\nx = x + y\nend\n")

abbrev pub calls_endless : Program
calls_endless = program_of (codes "proc main\ncall f\na = b + c\nend\nproc f\nL: goto L\nend\n")

abbrev pub may_loop : Program
may_loop = program_of (codes "proc main\nx = 1\nif c goto L\nreturn\nL: print x\ngoto L\nend\n")

abbrev pub calls_main : Program
calls_main = program_of (codes "proc main\nif a goto L\na = 1\ncall main\nL: print a\nend\n")

-- points 0 to 3 of main and 4 to 6 of p
abbrev pub computes_twice : Program
computes_twice = program_of (codes "proc main\na = b + c\ncall p\nd = b + c\nend\nproc p\nif c goto L\nb = 1\nL:\nend\n")

abbrev pub prints_between_calls : Program
prints_between_calls = program_of (codes "proc main\ncall p\nprint a\ncall p\nprint b\nend\nproc p\nskip\nend\n")

-- points 0 to 3 of main, 4 and 5 of p, 6 and 7 of q
abbrev pub calls_either : Program
calls_either = program_of (codes "proc main\nx = 1\ncall p | q\nprint x\nend\nproc p\nx = 2\nend\nproc q\nskip\nend\n")

-- points 0 to 2 of main, and the ends of p, q and r
abbrev pub calls_several : Program
calls_several = program_of (codes "proc main\ncall p | q | r\ncall q | p\nend\nproc p\nend\nproc q\nend\nproc r\nend\n")

abbrev pub calls_once : Program
calls_once = program_of (codes "proc main\nx = 1\ncall p\nend\nproc p\nskip\nend\n")

abbrev pub uncalled_procedure_calls : Program
uncalled_procedure_calls = program_of (codes "proc main\nx = 1\ncall p\nend\nproc p\nskip\nend\nproc q\ncall p\nend\n")

abbrev pub main_comes_last : Program
main_comes_last = program_of (codes "proc q\nreturn\nskip\nend\nproc main\nif x goto L\nL: if x < 1 goto M\nskip\nM: ifFalse x goto L\nend\n")

-- a statement of each kind: x is variable 0 and y variable 1
abbrev pub each_kind : Program
each_kind = program_of (codes "proc main\nx = y\nx = -y\nx = x + y\nx = 1 + 2\nread x\nprint x\nif x goto L\nif x < y goto L\nifFalse y goto L\ngoto L\ncall main\nskip\nreturn\nL:\nend\n")

-- z, x and y are variables 0, 1 and 2
abbrev pub repeats_expressions : Program
repeats_expressions = program_of (codes "proc main\nz = x + y\nz = y + x\nz = 007 - x\nz = 7 - x\nz = -x\nz = x + y\nend\n")

-- the bits that pass a test, in order
abbrev pub bits_with : Program → Analysis → (ℕ → Bool) → List ℕ
bits_with program analysis test = filter test (range_with_len 0 (bits program analysis))

abbrev pub gen_at : Program → Analysis → ℕ → List ℕ
gen_at program analysis point = bits_with program analysis (gens program analysis point)

abbrev pub kill_at : Program → Analysis → ℕ → List ℕ
kill_at program analysis point = bits_with program analysis (kills program analysis point)

abbrev pub boundary_of : Program → Analysis → List ℕ
boundary_of program analysis = bits_with program analysis (is_in_boundary program analysis)

-- Two shapes are the same, field by field, on so many points.
pub record IsSameShape (points : ℕ) (first second : Shape) : Type 0 where
  pub root_procedure : first.root_procedure ≡ second.root_procedure
  pub procedures : first.procedures ≡ second.procedures
  pub entries : map first.entry (range_with_len 0 first.procedures) ≡ map second.entry (range_with_len 0 first.procedures)
  pub exits : map first.exit (range_with_len 0 first.procedures) ≡ map second.exit (range_with_len 0 first.procedures)
  pub procedure_of_each : map first.procedure_of (range_with_len 0 points) ≡ map second.procedure_of (range_with_len 0 points)
  pub edges : first.edges ≡ second.edges

abbrev pub IsShapeOf : Shape → Program → Type 0
IsShapeOf shape program = IsSameShape (point_count program) shape (shape_of program)

-- Two transfers are the same, for the statements of so many points.
pub record IsSameTransfer (points : ℕ) (first second : Transfer) : Type 0 where
  pub gen : map (λ x. first.gen x 0) (range_with_len 0 points) ≡ map (λ x. second.gen x 0) (range_with_len 0 points)
  pub kill : map (λ x. first.kill x 0) (range_with_len 0 points) ≡ map (λ x. second.kill x 0) (range_with_len 0 points)
  pub boundary : first.boundary ≡ second.boundary

abbrev pub IsTransferOf : Transfer → Program → Analysis → ℕ → Type 0
IsTransferOf transfer program analysis bit = IsSameTransfer (point_count program) transfer (transfer_of program analysis bit)
