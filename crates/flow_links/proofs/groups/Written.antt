-- Lists that are lent out of a vector, and what stands in them
use Rattle.std.proofs.Common.{◌≡◌, ℕ, ◌<◌, List, length, get_or, take, map, replicate, ap, ◌∙◌, arith}
use Rattle.std.proofs.lemmas.List.{get_or-replicate, get_or-take, length-map, length-replicate, length-take}
use Rattle.flow_graph.specs.declared.edge.Edge.{Edge}
use Rattle.worklist.specs.Groups.{AreGroups}

-- zeros are below a number of which there are so many
pub blank_low : (xs : List ℕ) (n m : ℕ) → xs ≡ replicate n 0 → n ≡ m → (p : ℕ) → p < length xs → get_or xs p 0 < m
blank_low xs n m is same p within =
    let long : length xs ≡ n = ap length is ∙ length-replicate n 0 in
    let zero : get_or xs p 0 ≡ 0 = ap (λ (l : List ℕ). get_or l p 0) is ∙ get_or-replicate n p 0 0 (omega (arith, within, long)) in
    omega (arith, within, long, zero, same)

-- the first places of groups are places of edges
pub places_low : (edges : List Edge) (key : Edge → ℕ) (count : ℕ) (starts places : List ℕ) → AreGroups (map key edges) count starts places
    → (n : ℕ) (xs : List ℕ) → xs ≡ places
    → (j : ℕ) → j < length (take n xs) → get_or (take n xs) j 0 < length edges
places_low edges key count starts places groups n xs same j low =
    let taken = length-take n xs in
    let long : length xs ≡ length places = ap length same in
    let small = groups.in_range j (omega (arith, low, taken, long)) in
    let keys : length (map key edges) ≡ length edges = length-map edges key in
    let is : get_or (take n xs) j 0 ≡ get_or places j 0 = get_or-take n xs j 0 (omega (arith, low, taken)) ∙ ap (λ (l : List ℕ). get_or l j 0) same in
    omega (arith, small, keys, is)
