-- Names in a table, and what its keys say of them.
use Prim.Native.Nat.compare
use Rattle.std.proofs.Common.{◌≡◌, ℕ, suc, ◌+◌, Bool, true, false, not, ◌||◌, List, [], ◌∷◌, ◌++◌, refl, sym, ap, ◌∙◌, Option, Some, None, bytes_eq}
use Rattle.std.proofs.Common.{if◌then◌else◌, position, is_some, length, cond, nat_lt, one-add, fold, subst, append-nil, append_assoc}
use Rattle.std.proofs.Common.{arith}
use Rattle.std.proofs.lemmas.Bool.{lt-ltb}
use Rattle.std.proofs.lemmas.Map.Keys.{IsDistinct-head, IsDistinct-tail}
use Rattle.std.specs.List.{AllByRecursion, IsDistinct, list_any, prefix_len}
use Rattle.indexmap.specs.IndexSet.{insert_key}
use Rattle.tac_program.specs.Names.{is_one_of, noted}
use Rattle.tac_program.specs.code.Names.{texts}
use Rattle.tac_program.specs.declared.name_keys.NameKey.{NameKey}

among : (name : List ℕ) (ks : List NameKey) → list_any (λ k. bytes_eq name k.bytes.items) ks ≡ is_one_of name (texts ks)
among name [] = refl
among name (k ∷ ks) = ap (λ x. bytes_eq name k.bytes.items || x) (among name ks)

texts-push : (ks : List NameKey) (v : NameKey) → texts (ks ++ v ∷ []) ≡ texts ks ++ v.bytes.items ∷ []
texts-push [] v = refl
texts-push (k ∷ ks) v = ap (λ r. k.bytes.items ∷ r) (texts-push ks v)

texts-choice : (b : Bool) (ks : List NameKey) (v : NameKey)
    → texts (if b then ks else ks ++ v ∷ []) ≡ (if b then texts ks else texts ks ++ v.bytes.items ∷ [])
texts-choice true ks v = refl
texts-choice false ks v = texts-push ks v

pub texts-insert : (ks : List NameKey) (v : NameKey)
    → texts (insert_key (λ x y. bytes_eq x.bytes.items y.bytes.items) ks v) ≡ noted (texts ks) v.bytes.items
texts-insert ks v = texts-choice (list_any (λ k. bytes_eq v.bytes.items k.bytes.items) ks) ks v
    ∙ ap (λ b. if b then texts ks else texts ks ++ v.bytes.items ∷ []) (among v.bytes.items ks)

-- Keys that differ, put one by one into a set without any, are that set's.
module _ (same : NameKey → NameKey → Bool) (flip : (x y : NameKey) → same x y ≡ same y x) where
  none_before : (done : List NameKey) (k : NameKey) (rest : List NameKey) → IsDistinct same (done ++ k ∷ rest) → list_any (same k) done ≡ false
  none_before [] k rest h = refl
  none_before (x ∷ xs) k rest h =
      let apart : same x k ≡ false = last xs (IsDistinct-head same x (xs ++ k ∷ rest) h) in
      λ i. (flip k x ∙ apart) i || none_before xs k rest (IsDistinct-tail same x (xs ++ k ∷ rest) h) i
    where
      last : (ys : List NameKey) → AllByRecursion (λ y. same x y ≡ false) (ys ++ k ∷ rest) → same x k ≡ false
      last [] a = a.0
      last (y ∷ ys) a = last ys a.1

  pub put_anew : (done rest : List NameKey) → IsDistinct same (done ++ rest) → fold (insert_key same) done rest ≡ done ++ rest
  put_anew done [] h = sym (append-nil done)
  put_anew done (k ∷ rest) h =
      ap (λ b. fold (insert_key same) (if b then done else done ++ k ∷ []) rest) (none_before done k rest h)
      ∙ put_anew (done ++ k ∷ []) rest (subst (IsDistinct same) (sym (append_assoc done (k ∷ []) rest)) h)
      ∙ append_assoc done (k ∷ []) rest

run-texts : (name : List ℕ) (ks : List NameKey)
    → prefix_len (λ k. not (bytes_eq name k.bytes.items)) ks ≡ prefix_len (λ s. not (bytes_eq name s)) (texts ks)
run-texts name [] = refl
run-texts name (k ∷ ks) = ap (λ n. cond (not (bytes_eq name k.bytes.items)) (1 + n) 0) (run-texts name ks)

pub length-texts : (ks : List NameKey) → length (texts ks) ≡ length ks
length-texts [] = refl
length-texts (k ∷ ks) = ap suc (length-texts ks)

pub position-texts : (name : List ℕ) (ks : List NameKey) → position (λ k. bytes_eq name k.bytes.items) ks ≡ position (bytes_eq name) (texts ks)
position-texts name ks = at (run-texts name ks) (sym (length-texts ks)) where
  at : {n m k j : ℕ} → n ≡ m → k ≡ j → cond (nat_lt n k) (let o : Option ℕ = Some n in o) None ≡ cond (nat_lt m j) (Some m) None
  at {n} {m} {k} {j} e f = λ i. cond (nat_lt (e i) (f i)) (let o : Option ℕ = Some (e i) in o) None

-- A name is among the names exactly where it has a number.
below-any : (p : List ℕ → Bool) (xs : List (List ℕ)) → nat_lt (prefix_len (λ x. not (p x)) xs) (length xs) ≡ list_any p xs
below-any p [] = refl
below-any p (x ∷ xs) = by_test (p x) refl (below-any p xs) where
  by_test : (t : Bool) → p x ≡ t → nat_lt (prefix_len (λ y. not (p y)) xs) (length xs) ≡ list_any p xs
      → nat_lt (cond (not (p x)) (1 + prefix_len (λ y. not (p y)) xs) 0) (suc (length xs)) ≡ (p x || list_any p xs)
  by_test true e before = rw e (lt-ltb 0 (suc (length xs)) (omega arith))
  by_test false e before = rw (e, one-add, compare.suc-suc) before

pub numbered : (name : List ℕ) (names : List (List ℕ)) → is_some (position (bytes_eq name) names) ≡ is_one_of name names
numbered name names = by_test (nat_lt (prefix_len (λ y. not (bytes_eq name y)) names) (length names)) ∙ below-any (bytes_eq name) names where
  by_test : (t : Bool) → is_some (cond t (let o : Option ℕ = Some (prefix_len (λ y. not (bytes_eq name y)) names) in o) None) ≡ t
  by_test true = refl
  by_test false = refl
