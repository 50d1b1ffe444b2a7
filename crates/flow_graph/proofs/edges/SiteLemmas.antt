-- The call sites of procedures, point by point
use Rattle.std.proofs.Common.{◌≡◌, ℕ, ◌+◌, ◌<◌, List, [], length, get_or, fold, All, Option, Some, None, option_map, unwrap_or, refl, sym, ap, ◌∙◌}
use Rattle.std.proofs.Common.{arith}
use Rattle.std.specs.List.{filter, range_with_len}
use Rattle.tac_program.specs.Programs.{Program}
use Rattle.tac_program.specs.Sound.{IsSound, AllDiffer}
use Rattle.tac_program.specs.declared.program.StmtKind.{StmtKind}
use Rattle.tac_program.specs.declared.program.StmtKind.TheVariants as kind
use Rattle.flow_graph.specs.Edges.{callees_named, callees_at, calls}
use Rattle.flow_graph.specs.code.NumberLists.{with_last, AreLists}
use Rattle.flow_graph.specs.Points.{kind_at, point_count}
use Rattle.flow_graph.proofs.lists.NumberListLemmas.{put_in_each, filter-range_more}
use Rattle.flow_graph.proofs.places.Standing.{stands}

-- what is known of the procedures that a statement may call
pub record AreCallees (program : Program) (callees : List ℕ) : Type 0 where
  pub there : All (λ p. p < length program.procedures) callees
  pub differ : AllDiffer callees

no_callees : (program : Program) → AreCallees program []
no_callees program = record { there = λ k d below. absurd (omega arith); differ = λ i j d before below. absurd (omega arith) }

pub callees_are : (program : Program) (point : ℕ) → IsSound program → point < point_count program → AreCallees program (callees_at program point)
callees_are program point sound below = by_kind (kind_at program point) refl
  where
    by_kind : (k : Option StmtKind) → kind_at program point ≡ k → AreCallees program (unwrap_or (option_map callees_named k) [])
    by_kind None is = no_callees program
    by_kind (Some (kind.Call callees)) is =
        let stand = stands program sound point (kind.Call callees) below is in
        record { there = stand.sound.there; differ = stand.sound.differ }
    by_kind (Some (kind.Copy x y)) is = no_callees program
    by_kind (Some (kind.Unary x o y)) is = no_callees program
    by_kind (Some (kind.Binary o x y z)) is = no_callees program
    by_kind (Some (kind.Goto l)) is = no_callees program
    by_kind (Some (kind.If y l)) is = no_callees program
    by_kind (Some (kind.IfFalse y l)) is = no_callees program
    by_kind (Some (kind.IfCompare o l y z)) is = no_callees program
    by_kind (Some kind.Return) is = no_callees program
    by_kind (Some (kind.Read x)) is = no_callees program
    by_kind (Some (kind.Print y)) is = no_callees program
    by_kind (Some kind.Skip) is = no_callees program

-- the call sites before a point
abbrev pub sites_before : Program → ℕ → ℕ → List ℕ
sites_before program point procedure = filter (λ site. calls program site procedure) (range_with_len 0 point)

pub one_site_more : (program : Program) (point : ℕ) (old new : List (List ℕ)) → IsSound program → point < point_count program
    → AreLists old (length program.procedures) (sites_before program point)
    → new ≡ fold (λ known procedure. with_last known procedure point) old (callees_at program point)
    → AreLists new (length program.procedures) (sites_before program (point + 1))
one_site_more program point old new sound below are is =
    let callees : AreCallees program (callees_at program point) = callees_are program point sound below in
    let put =
    put_in_each old (length program.procedures) (sites_before program point) point (callees_at program point) are callees.there callees.differ in
    record {
      count = ap length is ∙ put.count;
      each = λ k d inside. ap (λ lists. get_or lists k d) is ∙ put.each k d inside ∙ sym (filter-range_more (λ site. calls program site k) point);
    }
