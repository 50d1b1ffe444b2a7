-- Parts that are read one after another.
use Rattle.std.proofs.Common.{◌≡◌, refl, ℕ, zero, suc, ◌+◌, ◌<◌, ◌≤◌, ◌==◌, ◌&&◌, ◌||◌, Bool, true, false, not, cond, if◌then◌else◌}
use Rattle.std.proofs.Common.{List, [], ◌∷◌, ◌++◌, Some, None, Result, Ok, Err, map, length, bytes_eq, sym, ap, ◌∙◌, subst, arith}
use Rattle.std.proofs.Common.{append_assoc, append-nil}
use Rattle.std.proofs.Common.{eq-eqb, ◌⊎◌, inl, inr}
use Rattle.std.specs.List.{find, list_any, range_with_len}
use Rattle.std.proofs.lemmas.Bool.{cases_lt}
use Rattle.std.proofs.lemmas.Slice.Eq.{bytes_eq-Decides}
use Rattle.std.proofs.lemmas.List.{map-append}
use Rattle.part_texts.specs.Merges.{accepted, against, is_there, joined, merged, missing, report_of_parts, unless_fault, unless_missing}
use Rattle.part_texts.specs.Parts.{Part, is_same_form, read_part}
use Rattle.part_texts.specs.declared.fault.MergeFault.{MergeFault}
use Rattle.part_texts.specs.declared.fault.PartFault.{PartFault}
use Rattle.part_texts.specs.declared.fault.MergeFault.TheVariants.{InText}
use Rattle.part_texts.specs.declared.fault.PartFault.TheVariants.{Double, OtherCount, OtherForm, OtherProgram}
use Rattle.part_texts.specs.declared.form.PartForm.{PartForm}
use Rattle.part_texts.specs.declared.form.PartForm.TheVariants.{Report, Json}
use Rattle.flow_parts.proofs.MergeLists.{stands}

-- parts of one report, by their numbers
pub record AreOfOne (made : ℕ → Part) (form : PartForm) (digest counts : List ℕ) (count : ℕ) : Type 0 where
  pub form_is : (k : ℕ) → (made k).heading.form ≡ form
  pub number : (k : ℕ) → (made k).heading.part ≡ k
  pub count_is : (k : ℕ) → (made k).heading.count ≡ count
  pub digest_is : (k : ℕ) → (made k).heading.digest ≡ digest
  pub counts_is : (k : ℕ) → (made k).counts ≡ counts

there_is : (made : ℕ → Part) → ((k : ℕ) → (made k).heading.part ≡ k) → (m : ℕ) (ks : List ℕ) → is_there (map made ks) m ≡ list_any (λ k. k == m) ks
there_is made number m [] = refl
there_is made number m (k ∷ ks) = λ i. (number k i == m) || there_is made number m ks i

abbrev tally : Bool → ℕ
tally b = if b then 1 else 0

stands_none : (m : ℕ) (ks : List ℕ) → stands m ks ≡ 0 → list_any (λ k. k == m) ks ≡ false
stands_none m [] none = refl
stands_none m (k ∷ ks) none = by (k == m) refl (stands_none m ks)
  where
    by : (b : Bool) → (k == m) ≡ b → (stands m ks ≡ 0 → list_any (λ j. j == m) ks ≡ false) → ((k == m) || list_any (λ j. j == m) ks) ≡ false
    by true here later =
        let e : tally (k == m) ≡ 1 = ap tally here in
        absurd (omega (arith, e, none))
    by false other later =
        let e : tally (k == m) ≡ 0 = ap tally other in
        let rest : stands m ks ≡ 0 = omega (arith, e, none) in
        ap (λ b. b || list_any (λ j. j == m) ks) other ∙ later rest

stands_some : (m : ℕ) (ks : List ℕ) → 0 < stands m ks → list_any (λ k. k == m) ks ≡ true
stands_some m [] some = absurd (omega (arith, some))
stands_some m (k ∷ ks) some = by (k == m) refl (stands_some m ks)
  where
    by : (b : Bool) → (k == m) ≡ b → (0 < stands m ks → list_any (λ j. j == m) ks ≡ true) → ((k == m) || list_any (λ j. j == m) ks) ≡ true
    by true here later = ap (λ b. b || list_any (λ j. j == m) ks) here
    by false other later =
        let e : tally (k == m) ≡ 0 = ap tally other in
        let rest : 0 < stands m ks = omega (arith, e, some) in
        ap (λ b. b || list_any (λ j. j == m) ks) other ∙ later rest

stands_append : (m : ℕ) (xs ys : List ℕ) → stands m (xs ++ ys) ≡ stands m xs + stands m ys
stands_append m [] ys = omega arith
stands_append m (x ∷ xs) ys = let rest : stands m (xs ++ ys) ≡ stands m xs + stands m ys = stands_append m xs ys in omega (arith, rest)

stands_here : (k : ℕ) (ks : List ℕ) → stands k (k ∷ ks) ≡ 1 + stands k ks
stands_here k ks = ap (λ b. (if b then 1 else 0) + stands k ks) (eq-eqb k k refl)

form_with_itself : (form : PartForm) → is_same_form form form ≡ true
form_with_itself Report = refl
form_with_itself Json = refl

same_bytes : (xs ys : List ℕ) → xs ≡ ys → bytes_eq xs ys ≡ true
same_bytes xs ys same = (bytes_eq-Decides xs ys).1 same

goes_with : (made : ℕ → Part) (form : PartForm) (digest counts : List ℕ) (count : ℕ) → AreOfOne made form digest counts count → (before : List ℕ) (k : ℕ)
    → stands k before ≡ 0
    → against (map made before) (made k) ≡ None
goes_with made form digest counts count one [] k none = refl
goes_with made form digest counts count one (b ∷ before) k none =
    let same_digest : bytes_eq (made k).heading.digest (made b).heading.digest ≡ true = same_bytes _ _ (one.digest_is k ∙ sym (one.digest_is b)) in
    let same_counts : bytes_eq (made k).counts (made b).counts ≡ true = same_bytes _ _ (one.counts_is k ∙ sym (one.counts_is b)) in
    let same_count : ((made k).heading.count == (made b).heading.count) ≡ true = eq-eqb _ _ (one.count_is k ∙ sym (one.count_is b)) in
    let absent : is_there (map made (b ∷ before)) (made k).heading.part ≡ false =
    ap (is_there (map made (b ∷ before))) (one.number k) ∙ there_is made one.number k (b ∷ before) ∙ stands_none k (b ∷ before) none in
    let same_form : is_same_form (made k).heading.form (made b).heading.form ≡ true =
    (λ i. is_same_form (one.form_is k i) (one.form_is b i)) ∙ form_with_itself form in
    chosen _ _ _ _ _ same_form same_digest same_counts same_count absent
  where
    chosen : (s d c n a : Bool) → s ≡ true → d ≡ true → c ≡ true → n ≡ true → a ≡ false
        → (if not s then Some OtherForm else if not (d && c) then Some OtherProgram else if not n then Some OtherCount
        else if a then Some Double else None) ≡ None
    chosen s d c n a r e f g h = λ i. if not (r i) then Some OtherForm else if not (e i && f i) then Some OtherProgram
        else if not (g i) then Some OtherCount else if h i then Some Double else None

joins : (made : ℕ → Part) (text_of : ℕ → List ℕ) (form : PartForm) (digest counts : List ℕ) (count : ℕ) → AreOfOne made form digest counts count
    → (before ks : List ℕ) → ((k : ℕ) → 0 < stands k ks → read_part (text_of k) ≡ Ok (made k)) → ((k : ℕ) → stands k (before ++ ks) ≤ 1)
    → joined (map made before) (map text_of ks) ≡ Ok (map made (before ++ ks))
joins made text_of form digest counts count one before [] reads few = ap (λ ps. Ok (map made ps)) (sym (append-nil before))
joins made text_of form digest counts count one before (k ∷ ks) reads few =
    let here : stands k (k ∷ ks) ≡ 1 + stands k ks = stands_here k ks in
    let split : stands k (before ++ k ∷ ks) ≡ stands k before + stands k (k ∷ ks) = stands_append k before (k ∷ ks) in
    let at_most : stands k (before ++ k ∷ ks) ≤ 1 = few k in
    let none : stands k before ≡ 0 = omega (arith, here, split, at_most) in
    let reading : read_part (text_of k) ≡ Ok (made k) = reads k (omega (arith, here)) in
    let takes : accepted (map made before) (text_of k) ≡ Ok (made k) =
    ap (λ r. told (map made before) r) reading ∙ ap (unless_fault (made k)) (goes_with made form digest counts count one before k none) in
    let regroup : before ++ k ∷ [] ++ ks ≡ before ++ k ∷ ks = append_assoc before (k ∷ []) ks in
    ap (λ r. next (map made before) (map text_of ks) r) takes
    ∙ ap (λ ps. joined ps (map text_of ks)) (sym (map-append made before (k ∷ [])))
    ∙ joins made text_of form digest counts count one (before ++ k ∷ []) ks (λ j some. reads j (more j some))
    (λ j. subst (λ ps. stands j ps ≤ 1) (sym regroup) (few j))
    ∙ ap (λ ps. Ok (map made ps)) regroup
  where
    told : List Part → Result Part PartFault → Result Part PartFault
    told ps r = elim r [ Ok part ↦ unless_fault part (against ps part) | Err fault ↦ Err fault ]

    next : List Part → List (List ℕ) → Result Part PartFault → Result (List Part) MergeFault
    next ps others r = elim r [ Ok part ↦ joined (ps ++ part ∷ []) others | Err fault ↦ Err (InText (length ps) fault) ]

    more : (j : ℕ) → 0 < stands j ks → 0 < stands j (k ∷ ks)
    more j some = omega (arith, some)

find_none : (p : ℕ → Bool) (a n : ℕ) → ((k : ℕ) → a ≤ k → k < a + n → p k ≡ false) → find p (range_with_len a n) ≡ None
find_none p a zero fails = refl
find_none p a (suc n) fails =
    ap (λ b. cond b (Some a) (find p (range_with_len (a + 1) n))) (fails a (omega arith) (omega arith))
    ∙ find_none p (a + 1) n (λ k from less. fails k (omega (arith, from)) (omega (arith, less)))

pub in_range : (k a n : ℕ) → a ≤ k → k < a + n → 0 < stands k (range_with_len a n)
in_range k a zero from less = absurd (omega (arith, from, less))
in_range k a (suc n) from less = by (cases_lt a k) (λ later. in_range k (a + 1) n (omega (arith, later)) (omega (arith, less)))
  where
    by : (a < k) ⊎ (k ≤ a) → (a < k → 0 < stands k (range_with_len (a + 1) n)) → 0 < stands k (a ∷ range_with_len (a + 1) n)
    by (inl later) rest = let some : 0 < stands k (range_with_len (a + 1) n) = rest later in omega (arith, some)
    by (inr here) rest =
        let same : a ≡ k = omega (arith, from, here) in
        let e : tally (a == k) ≡ 1 = ap tally (eq-eqb a k same) in
        omega (arith, e)

none_missing : (made : ℕ → Part) (form : PartForm) (digest counts : List ℕ) (count : ℕ) → AreOfOne made form digest counts count → (k : ℕ) (ks : List ℕ)
    → ((j : ℕ) → 1 ≤ j → j < 1 + count → 0 < stands j (k ∷ ks)) → missing (map made (k ∷ ks)) ≡ None
none_missing made form digest counts count one k ks all =
    ap (λ n. find (λ j. not (is_there (map made (k ∷ ks)) j)) (range_with_len 1 n)) (one.count_is k)
    ∙ find_none (λ j. not (is_there (map made (k ∷ ks)) j)) 1 count
    (λ j from less. ap not (there_is made one.number j (k ∷ ks) ∙ stands_some j (k ∷ ks) (all j from less)))

-- Texts that are read as all parts of one report make what the parts make.
pub merges : (made : ℕ → Part) (text_of : ℕ → List ℕ) (form : PartForm) (digest counts : List ℕ) (count : ℕ) → AreOfOne made form digest counts count → (k : ℕ) (ks : List ℕ)
    → ((j : ℕ) → 0 < stands j (k ∷ ks) → read_part (text_of j) ≡ Ok (made j)) → ((j : ℕ) → stands j (k ∷ ks) ≤ 1)
    → ((j : ℕ) → 1 ≤ j → j < 1 + count → 0 < stands j (k ∷ ks)) → merged (map text_of (k ∷ ks)) ≡ Ok (report_of_parts (map made (k ∷ ks)))
merges made text_of form digest counts count one k ks reads few all =
    ap whole (joins made text_of form digest counts count one [] (k ∷ ks) reads few)
    ∙ ap (unless_missing (map made (k ∷ ks))) (none_missing made form digest counts count one k ks all)
  where
    whole : Result (List Part) MergeFault → Result (List ℕ) MergeFault
    whole r = elim r [ Ok parts ↦ unless_missing parts (missing parts) | Err fault ↦ Err fault ]
