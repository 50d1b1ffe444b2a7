-- Paths, open sites and values of lists of edges that are joined
use Rattle.std.proofs.Common.{◌≡◌, ℕ, Bool, true, false, List, [], ◌∷◌, ◌++◌, Option, Some, None, IsSome, nat_eq, if◌then◌else◌, refl, arith}
use Rattle.flow_graph.specs.Paths.{Edge, Step, Call, Ret, target_of, Shape, Transfer, root, IsPath, open_sites_after, IsValidPath, value_after}

pub IsPath-append : (shape : Shape) (front back : List Edge) (x y z : ℕ) → IsPath shape x front y → IsPath shape y back z
    → IsPath shape x (front ++ back) z
IsPath-append shape [] back x y z first second = rw first second
IsPath-append shape (edge ∷ front) back x y z first second = (first.0, first.1, IsPath-append shape front back (target_of edge) y z first.2 second)

pub path_split : (shape : Shape) (front back : List Edge) (x z : ℕ) → IsPath shape x (front ++ back) z
    → (y : ℕ) × IsPath shape x front y × IsPath shape y back z
path_split shape [] back x z path = (x, refl, path)
path_split shape (edge ∷ front) back x z path =
    let (y, first, second) = path_split shape front back (target_of edge) z path.2 in
    (y, (path.0, path.1, first), second)

pub open_sites_after-append : (front back : List Edge) (sites : Option (List ℕ))
    → open_sites_after (front ++ back) sites ≡ open_sites_after back (open_sites_after front sites)
open_sites_after-append [] back sites = refl
open_sites_after-append (edge ∷ front) back sites = open_sites_after-append front back _

-- a return that does not match is never made good
pub open_sites_after-none : (path : List Edge) → open_sites_after path None ≡ None
open_sites_after-none [] = refl
open_sites_after-none (edge ∷ path) = open_sites_after-none path

pub value_after-append : (transfer : Transfer) (front back : List Edge) (value : Bool)
    → value_after transfer (front ++ back) value ≡ value_after transfer back (value_after transfer front value)
value_after-append transfer [] back value = refl
value_after-append transfer (edge ∷ front) back value = value_after-append transfer front back _

pub some_sites : (sites : Option (List ℕ)) → IsSome sites → (list : List ℕ) × (sites ≡ Some list)
some_sites (Some list) some = (list, refl)
some_sites None some = absurd (cc some)

pub nat_eq_same : (n : ℕ) → nat_eq n n ≡ true
nat_eq_same n = grind arith

-- a return that is read on has matched
pub same_site : (site latest : ℕ) (path : List Edge) (sites after : List ℕ)
    → open_sites_after path (if nat_eq site latest then Some sites else None) ≡ Some after
    → (site ≡ latest) × (open_sites_after path (Some sites) ≡ Some after)
same_site site latest path sites after = go (nat_eq site latest) refl
  where
    go : (same : Bool) → nat_eq site latest ≡ same → open_sites_after path (if same then Some sites else None) ≡ Some after
        → (site ≡ latest) × (open_sites_after path (Some sites) ≡ Some after)
    go true same opens = (grind arith, opens)
    go false same opens = absurd (cc (opens, open_sites_after-none path))

-- sites that were open before stay open below
pub open_sites_after-below : (path : List Edge) (sites after below : List ℕ) → open_sites_after path (Some sites) ≡ Some after
    → open_sites_after path (Some (sites ++ below)) ≡ Some (after ++ below)
open_sites_after-below [] sites after below opens =
    let same : sites ≡ after = cc in
    rw same
open_sites_after-below (Step x y ∷ path) sites after below opens = open_sites_after-below path sites after below opens
open_sites_after-below (Call site x y ∷ path) sites after below opens = open_sites_after-below path (site ∷ sites) after below opens
open_sites_after-below (Ret site x y ∷ path) [] after below opens = absurd (cc (opens, open_sites_after-none path))
open_sites_after-below (Ret site x y ∷ path) (latest ∷ sites) after below opens =
    let (same, rest) = same_site site latest path sites after opens in
    rw (same, nat_eq_same latest) (open_sites_after-below path sites after below rest)

pub valid_front : (shape : Shape) (front back : List Edge) (x : ℕ) → IsPath shape (root shape) front x
    → IsSome (open_sites_after (front ++ back) (Some [])) → IsValidPath shape front x
valid_front shape front back x path opens = (path, go (open_sites_after front (Some [])) (rw (open_sites_after-append front back (Some [])) at opens))
  where
    go : (sites : Option (List ℕ)) → IsSome (open_sites_after back sites) → IsSome sites
    go None some = rw (open_sites_after-none back) at some
    go (Some sites) some = refl
