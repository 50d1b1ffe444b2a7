-- Small programs worked by hand, with their points numbered as they stand, and paths through them.
use Rattle.std.specs.Prelude.{ℕ, true, false, nat_eq, nat_lt, List, [], ◌∷◌, if◌then◌else◌}
use Rattle.std.specs.List.{list_any}
use Rattle.flow_graph.specs.Paths.{Edge, Step, Call, Ret, Shape, Transfer}
use Rattle.flow_graph.specs.Runs.{Accesses}

-- the definition that the statement at a point makes, where the statements at the others define its variable too
abbrev pub definition_made_at : ℕ → List ℕ → Transfer
definition_made_at point others = record { gen = λ x y. nat_eq x point; kill = λ x y. list_any (nat_eq x) others; boundary = false }

-- the value that a variable has at the program's beginning, where the statements at these points define the variable
abbrev pub definition_at_entry : List ℕ → Transfer
definition_at_entry others = record { gen = λ x y. false; kill = λ x y. list_any (nat_eq x) others; boundary = true }

-- an expression in a backward problem: evaluated at these points, an operand assigned at the others
abbrev pub expression_evaluated_at : List ℕ → List ℕ → Transfer
expression_evaluated_at evaluated assigned =
    record { gen = λ x y. list_any (nat_eq x) evaluated; kill = λ x y. list_any (nat_eq x) assigned; boundary = false }

-- main: 0 a = 1, 1 call p, 2 print a, 3 a = 2, 4 call p, 5 print a, 6 its end; p: 7 skip, 8 its end
abbrev pub two_calls : Shape
two_calls = record {
  root_procedure = 0;
  procedures = 2;
  entry = λ p. if nat_eq p 0 then 0 else 7;
  exit = λ p. if nat_eq p 0 then 6 else 8;
  procedure_of = λ x. if nat_lt x 7 then 0 else 1;
  edges = Step 0 1 ∷ Call 1 1 7 ∷ Step 2 3 ∷ Step 3 4 ∷ Call 4 4 7 ∷ Step 5 6 ∷ Step 7 8 ∷ Ret 1 8 2 ∷ Ret 4 8 5 ∷ [];
}

-- its two definitions of a
abbrev pub earlier_definition : Transfer
earlier_definition = definition_made_at 0 (3 ∷ [])

abbrev pub later_definition : Transfer
later_definition = definition_made_at 3 (0 ∷ [])

-- through both calls, each return to its own site
abbrev pub right_return : List Edge
right_return = Step 0 1 ∷ Call 1 1 7 ∷ Step 7 8 ∷ Ret 1 8 2 ∷ Step 2 3 ∷ Step 3 4 ∷ Call 4 4 7 ∷ Step 7 8 ∷ Ret 4 8 5 ∷ []

-- the second return to the first call's site
abbrev pub wrong_return : List Edge
wrong_return = Step 0 1 ∷ Call 1 1 7 ∷ Step 7 8 ∷ Ret 1 8 2 ∷ Step 2 3 ∷ Step 3 4 ∷ Call 4 4 7 ∷ Step 7 8 ∷ Ret 1 8 2 ∷ []

-- main: 0 x = 1, 1 call f, 2 print x, 3 its end; f: 4 if x goto L, 5 call f, 6 x = 2, 7 L and its end
abbrev pub recursive_procedure : Shape
recursive_procedure = record {
  root_procedure = 0;
  procedures = 2;
  entry = λ p. if nat_eq p 0 then 0 else 4;
  exit = λ p. if nat_eq p 0 then 3 else 7;
  procedure_of = λ x. if nat_lt x 4 then 0 else 1;
  edges = Step 0 1 ∷ Call 1 1 4 ∷ Step 2 3 ∷ Step 4 5 ∷ Step 4 7 ∷ Call 5 5 4 ∷ Step 6 7 ∷ Ret 1 7 2 ∷ Ret 5 7 6 ∷ [];
}

-- f's definition of x
abbrev pub inner_definition : Transfer
inner_definition = definition_made_at 6 (0 ∷ [])

-- the innermost of three activations jumps to its end, the one around it defines x and returns to the outermost
abbrev pub through_recursion : List Edge
through_recursion =
    Step 0 1 ∷ Call 1 1 4 ∷ Step 4 5 ∷ Call 5 5 4 ∷ Step 4 5 ∷ Call 5 5 4 ∷ Step 4 7 ∷ Ret 5 7 6 ∷ Step 6 7 ∷ Ret 5 7 6 ∷ []

-- main: 0 if a goto L, 1 a = 1, 2 call main, 3 L: print a, 4 its end
abbrev pub recursive_main : Shape
recursive_main = record {
  root_procedure = 0;
  procedures = 1;
  entry = λ p. 0;
  exit = λ p. 4;
  procedure_of = λ x. 0;
  edges = Step 0 1 ∷ Step 0 3 ∷ Step 1 2 ∷ Call 2 2 0 ∷ Step 3 4 ∷ Ret 2 4 3 ∷ [];
}

-- its definition of a, and the value that a has at the beginning
abbrev pub only_definition : Transfer
only_definition = definition_made_at 1 []

abbrev pub value_at_entry : Transfer
value_at_entry = definition_at_entry (1 ∷ [])

-- into the call of main, and on through it
abbrev pub into_main : List Edge
into_main = Step 0 1 ∷ Step 1 2 ∷ Call 2 2 0 ∷ []

abbrev pub through_main : List Edge
through_main = Step 0 1 ∷ Step 1 2 ∷ Call 2 2 0 ∷ Step 0 3 ∷ Step 3 4 ∷ Ret 2 4 3 ∷ []

-- main: 0 call f, 1 a = b + c, 2 its end; f: 3 L: goto L, 4 its end
abbrev pub endless_callee : Shape
endless_callee = record {
  root_procedure = 0;
  procedures = 2;
  entry = λ p. if nat_eq p 0 then 0 else 3;
  exit = λ p. if nat_eq p 0 then 2 else 4;
  procedure_of = λ x. if nat_lt x 3 then 0 else 1;
  edges = Call 0 0 3 ∷ Step 1 2 ∷ Step 3 3 ∷ Ret 0 4 1 ∷ [];
}

-- b + c in it
abbrev pub sum_expression : Transfer
sum_expression = expression_evaluated_at (1 ∷ []) []

-- main: 0 call p, 1 print a, 2 call p, 3 print b, 4 its end; p: 5 skip, 6 its end
abbrev pub two_prints : Shape
two_prints = record {
  root_procedure = 0;
  procedures = 2;
  entry = λ p. if nat_eq p 0 then 0 else 5;
  exit = λ p. if nat_eq p 0 then 4 else 6;
  procedure_of = λ x. if nat_lt x 5 then 0 else 1;
  edges = Call 0 0 5 ∷ Step 1 2 ∷ Call 2 2 5 ∷ Step 3 4 ∷ Step 5 6 ∷ Ret 0 6 1 ∷ Ret 2 6 3 ∷ [];
}

-- where a is live in it
abbrev pub live_first : Transfer
live_first = expression_evaluated_at (1 ∷ []) []

-- from p's entry, out to the first call's site, and from there through the second call
abbrev pub out_of_first_call : List Edge
out_of_first_call = Step 5 6 ∷ Ret 0 6 1 ∷ Step 1 2 ∷ Call 2 2 5 ∷ Step 5 6 ∷ Ret 2 6 3 ∷ Step 3 4 ∷ []

-- main: 0 x = 1, 1 if c goto L, 2 return, 3 L: print x, 4 goto L, 5 its end
abbrev pub endless_loop : Shape
endless_loop = record {
  root_procedure = 0;
  procedures = 1;
  entry = λ p. 0;
  exit = λ p. 5;
  procedure_of = λ x. 0;
  edges = Step 0 1 ∷ Step 1 2 ∷ Step 1 3 ∷ Step 2 5 ∷ Step 3 4 ∷ Step 4 3 ∷ [];
}

-- what its statements do with x
abbrev pub printed_in_loop : Accesses
printed_in_loop = record { reads = λ point. nat_eq point 3; writes = λ point. nat_eq point 0 }

-- where x is live in it
abbrev pub live_in_loop : Transfer
live_in_loop = expression_evaluated_at (3 ∷ []) (0 ∷ [])

-- main: 0 x = 1, 1 call p | q, 2 print x, 3 its end; p: 4 x = 2, 5 its end; q: 6 skip, 7 its end
abbrev pub several_callees : Shape
several_callees = record {
  root_procedure = 0;
  procedures = 3;
  entry = λ p. if nat_eq p 0 then 0 else if nat_eq p 1 then 4 else 6;
  exit = λ p. if nat_eq p 0 then 3 else if nat_eq p 1 then 5 else 7;
  procedure_of = λ x. if nat_lt x 4 then 0 else if nat_lt x 6 then 1 else 2;
  edges = Step 0 1 ∷ Call 1 1 4 ∷ Call 1 1 6 ∷ Step 2 3 ∷ Step 4 5 ∷ Ret 1 5 2 ∷ Step 6 7 ∷ Ret 1 7 2 ∷ [];
}

-- main's definition of x
abbrev pub outer_definition : Transfer
outer_definition = definition_made_at 0 (4 ∷ [])

-- p's
abbrev pub inner_of_first : Transfer
inner_of_first = definition_made_at 4 (0 ∷ [])

abbrev pub through_first_callee : List Edge
through_first_callee = Step 0 1 ∷ Call 1 1 4 ∷ Step 4 5 ∷ Ret 1 5 2 ∷ []

abbrev pub through_second_callee : List Edge
through_second_callee = Step 0 1 ∷ Call 1 1 6 ∷ Step 6 7 ∷ Ret 1 7 2 ∷ []

-- main: 0 x = 1, 1 call p, 2 its end; p: 3 skip, 4 its end
abbrev pub one_call : Shape
one_call = record {
  root_procedure = 0;
  procedures = 2;
  entry = λ p. if nat_eq p 0 then 0 else 3;
  exit = λ p. if nat_eq p 0 then 2 else 4;
  procedure_of = λ x. if nat_lt x 3 then 0 else 1;
  edges = Step 0 1 ∷ Call 1 1 3 ∷ Step 3 4 ∷ Ret 1 4 2 ∷ [];
}

-- the same, and q, which nobody calls: 5 call p, 6 its end
abbrev pub uncalled_caller : Shape
uncalled_caller = record {
  root_procedure = 0;
  procedures = 3;
  entry = λ p. if nat_eq p 0 then 0 else if nat_eq p 1 then 3 else 5;
  exit = λ p. if nat_eq p 0 then 2 else if nat_eq p 1 then 4 else 6;
  procedure_of = λ x. if nat_lt x 3 then 0 else if nat_lt x 5 then 1 else 2;
  edges = Step 0 1 ∷ Call 1 1 3 ∷ Step 3 4 ∷ Ret 1 4 2 ∷ Ret 5 4 6 ∷ Call 5 5 3 ∷ [];
}
