-- Points of a frame
use Rattle.std.proofs.Common.{◌≡◌, ℕ, Bool, true, List, ◌&&◌, All, filter, ap, ◌∙◌}
use Rattle.std.proofs.Common.{nat_eq, nat_le, nat_lt, leb-true, ltb-true, get_or, Contains}
use Rattle.std.proofs.lemmas.Bool.{and_parts}
use Rattle.std.proofs.lemmas.List.Elements.{All-contains_itself}
use Rattle.flow_graph.specs.Paths.{source_of}
use Rattle.flow_graph.specs.declared.edge.Edge.{Edge}
use Rattle.flow_graph.specs.declared.edge.Edge.TheVariants.{Step, Call, Ret}
use Rattle.flow_graph.proofs.lists.Membership.{Contains-in_filter, Contains-in_map}
use Rattle.flow_team.specs.Tables.{TableFacts, facts_of}
use Rattle.flow_rounds.specs.Rounds.{is_step_to}
use Rattle.flow_rounds.specs.code.Frames.{Framed, IsOrdered, IsWithin, has_path_within, sources_to}
use Rattle.flow_rounds.specs.declared.point_range.PointRange.{PointRange}

pub ordered_within : (framed : Framed) → IsOrdered framed → All (IsWithin framed.points) framed.order
ordered_within framed ordered = λ k d below. ((ordered.listed (get_or framed.order k d)).0 (All-contains_itself framed.order k d below)).0

-- a point with a path lies within
pub path_within : (points : PointRange) (table : TableFacts) (point : ℕ) → has_path_within points table point ≡ true → IsWithin points point
path_within points table point is =
    let (within, has) = and_parts (nat_le points.first point && nat_lt point points.end) ((facts_of table).has_path point) is in
    let (low, high) = and_parts (nat_le points.first point) (nat_lt point points.end) within in
    (leb-true points.first point low, ltb-true point points.end high)

source_has_path : (has_path : ℕ → Bool) (point : ℕ) (edge : Edge) → is_step_to has_path point edge ≡ true → has_path (source_of edge) ≡ true
source_has_path has_path point (Step source target) is = (and_parts (nat_eq target point) (has_path source) is).1
source_has_path has_path point (Call site source target) is = absurd (cc is)
source_has_path has_path point (Ret site source target) is = absurd (cc is)

pub sources_within : (points : PointRange) (table : TableFacts) (edges : List Edge) (point : ℕ)
    → All (IsWithin points) (sources_to edges (has_path_within points table) point)
sources_within points table edges point = λ k d below.
    each (get_or (sources_to edges (has_path_within points table) point) k d)
    (All-contains_itself (sources_to edges (has_path_within points table) point) k d below)
  where
    each : (source : ℕ) → Contains (sources_to edges (has_path_within points table) point) source → IsWithin points source
    each source among =
        let (edge, listed, is) = Contains-in_map source_of (filter (is_step_to (has_path_within points table) point) edges) source among in
        let (_, passes) = Contains-in_filter (is_step_to (has_path_within points table) point) edges edge listed in
        path_within points table source
        (ap (has_path_within points table) is ∙ source_has_path (has_path_within points table) point edge passes)
