-- Small programs worked by hand, with their points numbered as they stand, in which doubt comes from what is not reached.
use Rattle.std.specs.Prelude.{nat_eq, nat_lt, [], ◌∷◌, if◌then◌else◌}
use Rattle.flow_graph.specs.Paths.{Shape}
use Rattle.flow_graph.specs.declared.edge.Edge.TheVariants.{Step, Call, Ret}

-- main: 0 x = 1, 1 call p, 2 its end; p: 3 skip, 4 its end; q, which nobody calls: 5 call p, 6 L: goto L, 7 its end
abbrev pub uncalled_endless : Shape
uncalled_endless = record {
  root_procedure = 0;
  procedures = 3;
  entry = λ p. if nat_eq p 0 then 0 else if nat_eq p 1 then 3 else 5;
  exit = λ p. if nat_eq p 0 then 2 else if nat_eq p 1 then 4 else 7;
  procedure_of = λ x. if nat_lt x 3 then 0 else if nat_lt x 5 then 1 else 2;
  edges = Step 0 1 ∷ Call 1 1 3 ∷ Step 3 4 ∷ Ret 1 4 2 ∷ Call 5 5 3 ∷ Ret 5 4 6 ∷ Step 6 6 ∷ [];
}

-- main: 0 x = 1, 1 call p, 2 return, 3 call p, 4 L: goto L, 5 its end; p: 6 skip, 7 its end
abbrev pub unreached_loop : Shape
unreached_loop = record {
  root_procedure = 0;
  procedures = 2;
  entry = λ p. if nat_eq p 0 then 0 else 6;
  exit = λ p. if nat_eq p 0 then 5 else 7;
  procedure_of = λ x. if nat_lt x 6 then 0 else 1;
  edges = Step 0 1 ∷ Call 1 1 6 ∷ Step 2 5 ∷ Call 3 3 6 ∷ Step 4 4 ∷ Step 6 7 ∷ Ret 1 7 2 ∷ Ret 3 7 4 ∷ [];
}
