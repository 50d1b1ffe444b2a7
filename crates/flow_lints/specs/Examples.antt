-- Worked programs, and what is known of them, written out by hand.
use Rattle.std.specs.Prelude.{ℕ, false, nat_eq, List, [], ◌∷◌, codes}
use Rattle.std.specs.List.{list_any}
use Rattle.flow_lints.specs.Lints.{LintKnowledge}
use Rattle.flow_team.specs.Tables.{Facts}
use Rattle.tac_program.specs.Programs.{Program}
use Rattle.tac_reader.specs.Parses.{program_of}

-- the facts of an analysis that has a path at these points, and no bit anywhere
abbrev pub paths_at : List ℕ → Facts
paths_at points = record { has_path = λ point. list_any (nat_eq point) points; contains = λ point bit. false }

-- what is known where these points are reached, these can finish, these are doubtful, and these on executions
abbrev pub known_by : List ℕ → List ℕ → List ℕ → List ℕ → LintKnowledge
known_by reached finishing doubtful on_executions = record {
  report = record {
    reach = paths_at reached;
    live = paths_at finishing;
    avail = paths_at reached;
    busy = paths_at finishing;
    doubtful = λ point. list_any (nat_eq point) doubtful;
  };
  on_executions = λ point. list_any (nat_eq point) on_executions;
}

-- main: 0 x = 1, 1 call p, 2 its end; p: 3 skip, 4 its end; q, which nobody calls: 5 call p, 6 L: goto L, 7 its end
abbrev pub uncalled_endless : Program
uncalled_endless = program_of (codes "proc main\nx = 1\ncall p\nend\nproc p\nskip\nend\nproc q\ncall p\nL: goto L\nend\n")

abbrev pub known_of_uncalled : LintKnowledge
known_of_uncalled = known_by (0 ∷ 1 ∷ 2 ∷ 3 ∷ 4 ∷ []) (0 ∷ 1 ∷ 2 ∷ 3 ∷ 4 ∷ []) (0 ∷ 1 ∷ 3 ∷ 4 ∷ 5 ∷ 6 ∷ 7 ∷ []) []

-- main: 0 x = 1, 1 return, 2 print x, 3 x = 2, 4 its end
abbrev pub returns_early : Program
returns_early = program_of (codes "proc main\nx = 1\nreturn\nprint x\nx = 2\nend\n")

abbrev pub known_of_early : LintKnowledge
known_of_early = known_by (0 ∷ 1 ∷ 4 ∷ []) (0 ∷ 1 ∷ 2 ∷ 3 ∷ 4 ∷ []) [] []

-- main: 0 x = 1, 1 if 1 goto L, 2 return, 3 L: print x, 4 goto L, 5 its end
abbrev pub may_loop : Program
may_loop = program_of (codes "proc main\nx = 1\nif 1 goto L\nreturn\nL: print x\ngoto L\nend\n")

abbrev pub known_of_loop : LintKnowledge
known_of_loop = known_by (0 ∷ 1 ∷ 2 ∷ 3 ∷ 4 ∷ 5 ∷ []) (0 ∷ 1 ∷ 2 ∷ 5 ∷ []) (0 ∷ 1 ∷ 3 ∷ 4 ∷ []) (0 ∷ 1 ∷ 3 ∷ 4 ∷ [])
