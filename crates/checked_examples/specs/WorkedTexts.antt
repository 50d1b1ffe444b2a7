-- Facts of small programs, written out by hand.
use Rattle.std.specs.Prelude.{ℕ, Bool, List, [], ◌∷◌, slice_index_or, nat_eq}
use Rattle.std.specs.List.{list_any}
use Rattle.flow_reports.specs.Reports.{Knowledge}
use Rattle.flow_team.specs.Tables.{Facts}

-- whether a number is in a list
abbrev pub is_in : List ℕ → ℕ → Bool
is_in numbers n = list_any (nat_eq n) numbers

-- facts by the points that have a path, and the bits of each point in order
abbrev pub written : List ℕ → List (List ℕ) → Facts
written reached sets = record { has_path = is_in reached; contains = λ point bit. is_in (slice_index_or sets point []) bit }

-- `main` and a procedure p that it calls twice: what reaches each point
abbrev pub reach_of_two_calls : Facts
reach_of_two_calls =
    written (0 ∷ 1 ∷ 2 ∷ 3 ∷ 4 ∷ 5 ∷ 6 ∷ 7 ∷ 8 ∷ [])
    ((0 ∷ []) ∷ (1 ∷ []) ∷ (1 ∷ []) ∷ (1 ∷ []) ∷ (2 ∷ []) ∷ (2 ∷ []) ∷ (2 ∷ []) ∷ (1 ∷ 2 ∷ []) ∷ (1 ∷ 2 ∷ []) ∷ [])

-- `x = x + y`, alone
abbrev pub known_of_sum : Knowledge
known_of_sum = record {
  reach = written (0 ∷ 1 ∷ []) ((0 ∷ 1 ∷ []) ∷ (1 ∷ 2 ∷ []) ∷ []);
  live = written (0 ∷ 1 ∷ []) ((0 ∷ 1 ∷ []) ∷ [] ∷ []);
  avail = written (0 ∷ 1 ∷ []) ([] ∷ [] ∷ []);
  busy = written (0 ∷ 1 ∷ []) ((0 ∷ []) ∷ [] ∷ []);
  doubtful = is_in [];
}

-- `main` calls f, which never ends, before it computes `b + c`; the points of f are 3 and 4
abbrev pub known_of_endless_callee : Knowledge
known_of_endless_callee = record {
  reach = written (0 ∷ 3 ∷ []) ((0 ∷ 1 ∷ 2 ∷ []) ∷ [] ∷ [] ∷ (0 ∷ 1 ∷ 2 ∷ []) ∷ [] ∷ []);
  live = written (1 ∷ 2 ∷ 4 ∷ []) ([] ∷ (1 ∷ 2 ∷ []) ∷ [] ∷ [] ∷ (1 ∷ 2 ∷ []) ∷ []);
  avail = written (0 ∷ 3 ∷ []) ([] ∷ (0 ∷ []) ∷ (0 ∷ []) ∷ [] ∷ (0 ∷ []) ∷ []);
  busy = written (1 ∷ 2 ∷ 4 ∷ []) ((0 ∷ []) ∷ (0 ∷ []) ∷ [] ∷ (0 ∷ []) ∷ (0 ∷ []) ∷ []);
  doubtful = is_in (0 ∷ 3 ∷ []);
}

-- A loop without an end after a test: from the first two points on it may be entered.
abbrev pub known_of_loop : Knowledge
known_of_loop = record {
  reach = written (0 ∷ 1 ∷ 2 ∷ 3 ∷ 4 ∷ 5 ∷ []) ((0 ∷ 1 ∷ []) ∷ (1 ∷ 2 ∷ []) ∷ (1 ∷ 2 ∷ []) ∷ (1 ∷ 2 ∷ []) ∷ (1 ∷ 2 ∷ []) ∷ (1 ∷ 2 ∷ []) ∷ []);
  live = written (0 ∷ 1 ∷ 2 ∷ 5 ∷ []) ((1 ∷ []) ∷ (1 ∷ []) ∷ [] ∷ [] ∷ [] ∷ [] ∷ []);
  avail = written (0 ∷ 1 ∷ 2 ∷ 3 ∷ 4 ∷ 5 ∷ []) [];
  busy = written (0 ∷ 1 ∷ 2 ∷ 5 ∷ []) [];
  doubtful = is_in (0 ∷ 1 ∷ 3 ∷ 4 ∷ []);
}

-- Both branches of a test compute `b + c`; b, c, x and y are variables 0 to 3.
abbrev pub known_of_branches : Knowledge
known_of_branches = record {
  reach = written (0 ∷ 1 ∷ 2 ∷ 3 ∷ 4 ∷ 5 ∷ 6 ∷ 7 ∷ 8 ∷ [])
      ((0 ∷ 1 ∷ 2 ∷ 3 ∷ []) ∷ (4 ∷ 1 ∷ 2 ∷ 3 ∷ []) ∷ (4 ∷ 5 ∷ 2 ∷ 3 ∷ []) ∷ (4 ∷ 5 ∷ 2 ∷ 3 ∷ []) ∷ (4 ∷ 5 ∷ 6 ∷ 3 ∷ [])
      ∷ (4 ∷ 5 ∷ 6 ∷ 3 ∷ []) ∷ (4 ∷ 5 ∷ 2 ∷ 3 ∷ []) ∷ (4 ∷ 5 ∷ 2 ∷ 7 ∷ []) ∷ (4 ∷ 5 ∷ 2 ∷ 3 ∷ 6 ∷ 7 ∷ []) ∷ []);
  live = written (0 ∷ 1 ∷ 2 ∷ 3 ∷ 4 ∷ 5 ∷ 6 ∷ 7 ∷ 8 ∷ [])
      ([] ∷ (0 ∷ []) ∷ (0 ∷ 1 ∷ []) ∷ (0 ∷ 1 ∷ []) ∷ (2 ∷ []) ∷ [] ∷ (0 ∷ 1 ∷ []) ∷ (3 ∷ []) ∷ [] ∷ []);
  avail = written (0 ∷ 1 ∷ 2 ∷ 3 ∷ 4 ∷ 5 ∷ 6 ∷ 7 ∷ 8 ∷ []) ([] ∷ [] ∷ [] ∷ [] ∷ (0 ∷ []) ∷ (0 ∷ []) ∷ [] ∷ (0 ∷ []) ∷ (0 ∷ []) ∷ []);
  busy = written (0 ∷ 1 ∷ 2 ∷ 3 ∷ 4 ∷ 5 ∷ 6 ∷ 7 ∷ 8 ∷ []) ([] ∷ [] ∷ (0 ∷ []) ∷ (0 ∷ []) ∷ [] ∷ [] ∷ (0 ∷ []) ∷ [] ∷ [] ∷ []);
  doubtful = is_in [];
}
