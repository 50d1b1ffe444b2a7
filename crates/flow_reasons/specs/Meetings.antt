-- Which statements are met next behind a point, and which last before it.
--
-- Each is the question of a bit of its own: the statement at one point generates it, and every statement at which such a way ends kills it,
-- as a definition reaches a point (Aho, Lam, Sethi, Ullman, 2nd edition, 9.2.4), over valid paths (Reps, Horwitz, Sagiv 1995).
use Rattle.std.specs.Prelude.{◌≡◌, ◌<◌, ℕ, suc, Bool, true, false, ◌||◌, nat_eq}
use Rattle.tac_program.specs.Programs.{Program}
use Rattle.flow_graph.specs.Analyses.{shape_of}
use Rattle.flow_graph.specs.Paths.{Transfer, SomePathHas, SomeBackwardPathHas}
use Rattle.flow_graph.specs.Points.{point_count}
use Rattle.flow_graph.specs.Transfers.{gens, kills, writes}
use Rattle.flow_graph.specs.declared.analysis.Analysis.TheVariants.{Avail, Busy}

-- the bit of a statement that is met before any that stops the way
abbrev pub meeting : (ℕ → Bool) → ℕ → Transfer
meeting stops q = record { gen = λ x y. nat_eq x q; kill = λ x y. stops x; boundary = false }

-- the bit of a way to the end on which nothing stops it
abbrev pub passing : (ℕ → Bool) → Transfer
passing stops = record { gen = λ x y. false; kill = λ x y. stops x; boundary = true }

-- The statement at q writes the variable, and some backward valid path from the point behind p comes to it before any other that writes
-- the variable: what is assigned at p may be overwritten there.
pub record IsNextWrite (program : Program) (variable p q : ℕ) : Type 0 where
  pub below : q < point_count program
  pub write : writes program q variable ≡ true
  pub next : SomeBackwardPathHas (shape_of program) (meeting (λ x. writes program x variable) q) (suc p)

-- some backward valid path from the point behind p comes to the end of `main` with no write of the variable
abbrev pub MayEndUnwritten : Program → ℕ → ℕ → Type 0
MayEndUnwritten program variable p = SomeBackwardPathHas (shape_of program) (passing (λ x. writes program x variable)) (suc p)

-- whether the statement at a point evaluates an expression or writes an operand of it, so that no earlier evaluation counts behind it
abbrev pub renews : Program → ℕ → ℕ → Bool
renews program e x = gens program Avail x e || kills program Avail x e

-- The statement at q evaluates the expression and writes no operand of it, and from it some valid path comes to p on which nothing else
-- evaluates it and nothing writes an operand.
pub record IsLastEvaluation (program : Program) (e p q : ℕ) : Type 0 where
  pub below : q < point_count program
  pub evaluates : gens program Avail q e ≡ true
  pub last : SomePathHas (shape_of program) (meeting (renews program e) q) p

-- whether the statement at a point evaluates an expression or writes an operand of it, so that no later evaluation counts before it
abbrev pub decides : Program → ℕ → ℕ → Bool
decides program e x = gens program Busy x e || kills program Busy x e

-- The statement at q evaluates the expression, and some backward valid path from p comes to it before anything else evaluates it or
-- writes an operand.
pub record IsNextEvaluation (program : Program) (e p q : ℕ) : Type 0 where
  pub below : q < point_count program
  pub evaluates : gens program Busy q e ≡ true
  pub next : SomeBackwardPathHas (shape_of program) (meeting (decides program e) q) p
