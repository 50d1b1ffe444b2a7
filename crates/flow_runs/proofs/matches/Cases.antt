-- What both commands' proofs ask of a test.
use Rattle.std.proofs.Common.{◌≡◌, rules, sym, Option, Some, None, is_some, true, false, true≢false}
use Rattle.std.specs.Prelude.{IsSome}

pub other : {P : Type 0} → false ≡ true → P
other e = absurd (true≢false (sym e))

pub some_of_test : {A : Type 0} (o : Option A) → is_some o ≡ true → IsSome o
some_of_test None e = cc
some_of_test (Some x) e = search rules
