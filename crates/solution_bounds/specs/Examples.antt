-- Small programs worked by hand, and bounds of their bits.
use Rattle.std.specs.Prelude.{ℕ, true, false, Bool, nat_eq, nat_lt, List, [], ◌∷◌, if◌then◌else◌}
use Rattle.std.specs.List.{list_any}
use Rattle.flow_graph.specs.declared.edge.Edge.TheVariants.{Step, Call, Ret}
use Rattle.flow_graph.specs.Examples.{definition_made_at, definition_at_entry}
use Rattle.flow_graph.specs.Paths.{Shape, Transfer}
use Rattle.solution_bounds.specs.Bounds.{Values}
use Rattle.solution_bounds.specs.Quotients.{Quotient, values_of}

-- main: 0 x = 1, 1 call p, 2 its end; p: 3 call q, 4 its end; q: 5 a statement, 6 its end
abbrev pub nested_calls : Shape
nested_calls = record {
  root_procedure = 0;
  procedures = 3;
  entry = λ p. if nat_eq p 0 then 0 else if nat_eq p 1 then 3 else 5;
  exit = λ p. if nat_eq p 0 then 2 else if nat_eq p 1 then 4 else 6;
  procedure_of = λ x. if nat_lt x 3 then 0 else if nat_lt x 5 then 1 else 2;
  edges = Step 0 1 ∷ Call 1 1 3 ∷ Call 3 3 5 ∷ Step 5 6 ∷ Ret 3 6 4 ∷ Ret 1 4 2 ∷ [];
}

-- the test that these numbers pass
abbrev pub among : List ℕ → ℕ → Bool
among numbers n = list_any (nat_eq n) numbers

-- the values of a quotient, where all may be reached and entered
abbrev pub values_above : Quotient → Values
values_above quotient = values_of nested_calls (λ x. true) (λ p. true) quotient

-- main's definition, where the statement of q is none of x; main alone is inside, and p, q lead nowhere inside
abbrev pub lasting_definition : Transfer
lasting_definition = definition_made_at 0 []

abbrev pub lasting_above : Quotient
lasting_above = record {
  inside = among (0 ∷ []);
  leads = among [];
  preserved = among (0 ∷ 1 ∷ 2 ∷ []);
  generated = among (1 ∷ 2 ∷ []);
  brought = among [];
  outside_generates = false;
  outside_brought = false;
}

abbrev pub lasting_below : Values
lasting_below = record {
  reached = among (0 ∷ 2 ∷ []);
  preserved = among [];
  generated = among (1 ∷ 2 ∷ []);
  entered = among (0 ∷ []);
  brought = among [];
}

-- main's definition, where q defines x too: main and q are inside, and p, which is outside, leads to q
abbrev pub killed_definition : Transfer
killed_definition = definition_made_at 0 (5 ∷ [])

abbrev pub killed_above : Quotient
killed_above = record {
  inside = among (0 ∷ 2 ∷ []);
  leads = among (0 ∷ 1 ∷ []);
  preserved = among (0 ∷ 1 ∷ 2 ∷ 5 ∷ []);
  generated = among (1 ∷ 2 ∷ []);
  brought = among (2 ∷ []);
  outside_generates = false;
  outside_brought = true;
}

-- q's definition of x, which p hands out to main
abbrev pub inner_definition : Transfer
inner_definition = definition_made_at 5 (0 ∷ [])

abbrev pub inner_above : Quotient
inner_above = record {
  inside = among (0 ∷ 2 ∷ []);
  leads = among (0 ∷ 1 ∷ []);
  preserved = among (0 ∷ 5 ∷ 6 ∷ []);
  generated = among (2 ∷ 6 ∷ []);
  brought = among (2 ∷ []);
  outside_generates = true;
  outside_brought = true;
}

abbrev pub inner_below : Values
inner_below = record {
  reached = among (1 ∷ 2 ∷ []);
  preserved = among [];
  generated = among (2 ∷ 4 ∷ 6 ∷ []);
  entered = among (0 ∷ []);
  brought = among [];
}

-- the value that x has at the beginning, where no statement defines it: a tree of calls brings it to q
abbrev pub beginning_value : Transfer
beginning_value = definition_at_entry []

-- main: 0 call f, 1 call g, 2 its end; f: 3 x = 1, 4 its end; g: 5 skip, 6 its end
abbrev pub calls_in_turn : Shape
calls_in_turn = record {
  root_procedure = 0;
  procedures = 3;
  entry = λ p. if nat_eq p 0 then 0 else if nat_eq p 1 then 3 else 5;
  exit = λ p. if nat_eq p 0 then 2 else if nat_eq p 1 then 4 else 6;
  procedure_of = λ x. if nat_lt x 3 then 0 else if nat_lt x 5 then 1 else 2;
  edges = Call 0 0 3 ∷ Ret 0 4 1 ∷ Call 1 1 5 ∷ Ret 1 6 2 ∷ Step 3 4 ∷ Step 5 6 ∷ [];
}

-- f's definition of x, which comes to g by main
abbrev pub first_definition : Transfer
first_definition = definition_made_at 3 []
