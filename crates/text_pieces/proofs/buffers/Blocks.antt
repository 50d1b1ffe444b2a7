-- Texts one behind the other in a block
use Rattle.std.proofs.Common.{◌≡◌, ℕ, zero, suc, refl, ◌+◌, ◌-◌, ◌<◌, ◌≤◌, Bool, true, false, List, [], ◌∷◌, ◌++◌, length, map, flat_map, take, drop}
use Rattle.std.proofs.Common.{get_or, sym, ap, ◌∙◌, subst, if◌then◌else◌, arith, length-append, length-drop, append_assoc, ◌⊎◌, inl, inr}
use Rattle.std.specs.Prelude.{slice_index, slice_range}
use Rattle.std.specs.List.{range_with_len}
use Rattle.std.proofs.Math.ListN.{get_or-append}
use Rattle.std.proofs.lemmas.Bool.{cases_lt}
use Rattle.std.proofs.lemmas.List.FromFn.{length-map-range_with_len, get_or-map-range_with_len, map-range_with_len_more}
use Rattle.std.proofs.lemmas.List.{drop-append-le, take-append-le, drop-take, drop-drop, length-take-le, get_or_default}
use Rattle.std.proofs.Math.Seq.{drop-append_seam, get_or-append_seam, take-length, take-add}
use Rattle.text_pieces.specs.code.Blocks.{HoldsTexts, IsBlock, IsPart, SeparatedTexts, part_of, texts_of, with_text}
use Rattle.text_pieces.specs.code.Lists.{after, text_at}

-- more behind the block changes no part
part_kept : (between bytes more marks : List ℕ) (mark n : ℕ) (text : List ℕ) → n + 1 < length marks → IsPart between bytes marks n text
    → IsPart between (bytes ++ more) (marks ++ mark ∷ []) n text
part_kept between bytes more marks mark n text there is =
    let from : slice_index (marks ++ mark ∷ []) n ≡ slice_index marks n = get_or-append marks (mark ∷ []) 0 n (omega arith) in
    let to : slice_index (marks ++ mark ∷ []) (n + 1) ≡ slice_index marks (n + 1) = get_or-append marks (mark ∷ []) 0 (n + 1) there in
    let begins : slice_index marks n ≤ length bytes = omega (arith, is.ordered, is.within) in
    let fits : slice_index marks (n + 1) - slice_index marks n ≤ length (drop (slice_index marks n) bytes) =
    omega (arith, is.within, length-drop (slice_index marks n) bytes) in
    record {
      ordered = omega (arith, from, to, is.ordered);
      within = omega (arith, to, is.within, length-append bytes more);
      part =
          ap (λ a. take (slice_index (marks ++ mark ∷ []) (n + 1) - a) (drop a (bytes ++ more))) from
          ∙ ap (λ b. take (b - slice_index marks n) (drop (slice_index marks n) (bytes ++ more))) to
          ∙ ap (take (slice_index marks (n + 1) - slice_index marks n)) (drop-append-le (slice_index marks n) bytes more begins)
          ∙ take-append-le (slice_index marks (n + 1) - slice_index marks n) (drop (slice_index marks n) bytes) more fits
          ∙ is.part;
    }

-- a part more
part_new : (between bytes text marks : List ℕ) (mark n : ℕ) → length marks ≡ n + 1 → slice_index marks n ≡ length bytes
    → mark ≡ length (bytes ++ (between ++ text))
    → IsPart between (bytes ++ (between ++ text)) (marks ++ mark ∷ []) n text
part_new between bytes text marks mark n many last is =
    let more : List ℕ = between ++ text in
    let from : slice_index (marks ++ mark ∷ []) n ≡ length bytes = get_or-append marks (mark ∷ []) 0 n (omega arith) ∙ last in
    let to : slice_index (marks ++ mark ∷ []) (n + 1) ≡ mark =
    ap (λ k. slice_index (marks ++ mark ∷ []) k) (sym many) ∙ get_or-append_seam marks mark [] 0 in
    let long : mark - length bytes ≡ length more = omega (arith, is, length-append bytes more) in
    record {
      ordered = omega (arith, from, to, is, length-append bytes more);
      within = omega (arith, to, is);
      part =
          ap (λ a. take (slice_index (marks ++ mark ∷ []) (n + 1) - a) (drop a (bytes ++ more))) from
          ∙ ap (λ b. take (b - length bytes) (drop (length bytes) (bytes ++ more))) to
          ∙ ap (λ k. take k (drop (length bytes) (bytes ++ more))) long
          ∙ ap (take (length more)) (drop-append_seam bytes more)
          ∙ take-length more;
    }

part_text : (between bytes marks : List ℕ) (n : ℕ) (text : List ℕ) → IsPart between bytes marks n text
    → drop (length between) (part_of bytes marks n) ≡ text
part_text between bytes marks n text is = ap (drop (length between)) is.part ∙ drop-append_seam between text

-- functions that agree below a count
pub map-below : {A : Type 0} (f g : ℕ → A) (first count : ℕ) → ((n : ℕ) → n < first + count → f n ≡ g n)
    → map f (range_with_len first count) ≡ map g (range_with_len first count)
map-below f g first zero same = refl
map-below f g first (suc count) same =
    ap (λ x. x ∷ map f (range_with_len (first + 1) count)) (same first (omega arith))
    ∙ ap (λ xs. g first ∷ xs) (map-below f g (first + 1) count (λ n below. same n (omega (arith, below))))

-- an empty block
pub no_parts : (between : List ℕ) → IsBlock between [] (0 ∷ [])
no_parts between = record { some = omega arith; last = refl; each = λ n there. absurd (omega (arith, there)) }

-- A block with one text more.
pub record Grows (between bytes marks all longer text : List ℕ) : Type 0 where
  pub block : IsBlock between all longer
  pub texts : texts_of between all longer ≡ texts_of between bytes marks ++ text ∷ []

pub grows : (between bytes marks text begun all longer : List ℕ) (mark : ℕ) → IsBlock between bytes marks
    → begun ≡ bytes ++ between → all ≡ begun ++ text → mark ≡ length all → longer ≡ marks ++ mark ∷ []
    → Grows between bytes marks all longer text
grows between bytes marks text begun all longer mark old separated added is pushed =
    let whole : all ≡ bytes ++ (between ++ text) = added ∙ ap (λ t. t ++ text) separated ∙ append_assoc bytes between text in
    subst (λ ms. Grows between bytes marks all ms text) (sym pushed)
    (subst (λ bs. Grows between bytes marks bs (marks ++ mark ∷ []) text) (sym whole) (grown (is ∙ ap length whole)))
  where
    count : ℕ
    count = length marks - 1

    many : length marks ≡ count + 1
    many = omega (arith, old.some)

    grown : mark ≡ length (bytes ++ (between ++ text)) → Grows between bytes marks (bytes ++ (between ++ text)) (marks ++ mark ∷ []) text
    grown at =
        let next : List ℕ = marks ++ mark ∷ [] in
        let here : List ℕ = bytes ++ (between ++ text) in
        let so_many : length next ≡ length marks + 1 = length-append marks (mark ∷ []) in
        let behind : length next - 1 ≡ count + 1 = omega (arith, so_many, many) in
        let new : IsPart between here next count text = part_new between bytes text marks mark count many old.last at in
        let kept : (n : ℕ) → n < count → IsPart between here next n (drop (length between) (part_of bytes marks n)) =
        λ n below. part_kept between bytes (between ++ text) marks mark n (drop (length between) (part_of bytes marks n)) (omega (arith, many, below))
        (old.each n (omega (arith, many, below))) in
        record {
          block = record {
            some = omega (arith, so_many);
            last = ap (slice_index next) behind ∙ ap (λ k. slice_index next k) (sym many) ∙ get_or-append_seam marks mark [] 0 ∙ at;
            each = λ n there. by_place n (cases_lt n count) there new kept;
          };
          texts =
              ap (λ k. map (λ n. drop (length between) (part_of here next n)) (range_with_len 0 k)) behind
              ∙ map-range_with_len_more (λ n. drop (length between) (part_of here next n)) 0 count count (omega arith)
              ∙ ap (λ t. map (λ n. drop (length between) (part_of here next n)) (range_with_len 0 count) ++ t ∷ [])
              (part_text between here next count text new)
              ∙ ap (λ ts. ts ++ text ∷ [])
              (map-below (λ n. drop (length between) (part_of here next n)) (λ n. drop (length between) (part_of bytes marks n)) 0 count
              (λ n below. part_text between here next n (drop (length between) (part_of bytes marks n)) (kept n (omega (arith, below)))));
        }
      where
        itself : (n : ℕ) (t : List ℕ) → IsPart between (bytes ++ (between ++ text)) (marks ++ mark ∷ []) n t
            → IsPart between (bytes ++ (between ++ text)) (marks ++ mark ∷ []) n
            (drop (length between) (part_of (bytes ++ (between ++ text)) (marks ++ mark ∷ []) n))
        itself n t is_part = subst (IsPart between (bytes ++ (between ++ text)) (marks ++ mark ∷ []) n)
            (sym (part_text between (bytes ++ (between ++ text)) (marks ++ mark ∷ []) n t is_part)) is_part

        by_place : (n : ℕ) → (n < count) ⊎ (count ≤ n) → n + 1 < length (marks ++ mark ∷ [])
            → IsPart between (bytes ++ (between ++ text)) (marks ++ mark ∷ []) count text
            → ((k : ℕ) → k < count
            → IsPart between (bytes ++ (between ++ text)) (marks ++ mark ∷ []) k (drop (length between) (part_of bytes marks k)))
            → IsPart between (bytes ++ (between ++ text)) (marks ++ mark ∷ []) n
            (drop (length between) (part_of (bytes ++ (between ++ text)) (marks ++ mark ∷ []) n))
        by_place n (inl below) there new kept = itself n (drop (length between) (part_of bytes marks n)) (kept n below)
        by_place n (inr above) there new kept =
            let same : count ≡ n = omega (arith, many, there, length-append marks (mark ∷ [])) in
            itself n text (subst (λ k. IsPart between (bytes ++ (between ++ text)) (marks ++ mark ∷ []) k text) same new)

-- a range in two
range_cut : (bytes : List ℕ) (a b c : ℕ) → a ≤ b → b ≤ c → slice_range bytes a c ≡ slice_range bytes a b ++ slice_range bytes b c
range_cut bytes a b c low high =
    let all : c - a ≡ (b - a) + (c - b) = omega (arith, low, high) in
    let from : a + (b - a) ≡ b = omega (arith, low) in
    ap (λ n. take n (drop a bytes)) all ∙ take-add (b - a) (c - b) (drop a bytes)
    ∙ ap (λ xs. take (b - a) (drop a bytes) ++ take (c - b) xs) (drop-drop (b - a) a bytes ∙ ap (λ n. drop n bytes) from)

-- What lies between two marks.
record Lies (between bytes marks : List ℕ) (texts : List (List ℕ)) (first count : ℕ) : Type 0 where
  ordered : slice_index marks first ≤ slice_index marks (first + count)
  within : slice_index marks (first + count) ≤ length bytes
  text : slice_range bytes (slice_index marks first) (slice_index marks (first + count))
      ≡ flat_map (λ t. between ++ t) (map (text_at texts) (range_with_len first count))

lies : (between bytes marks : List ℕ) → IsBlock between bytes marks → (first count : ℕ) → first + count < length marks
    → Lies between bytes marks (texts_of between bytes marks) first count
lies between bytes marks is first zero there =
    let here : first + zero ≡ first = omega arith in
    subst (λ n. (slice_index marks first ≤ slice_index marks n) → Lies between bytes marks (texts_of between bytes marks) first zero) here
    (λ ordered. record { ordered = ordered; within = by_place (cases_lt (first + 1) (length marks)); text = none }) (omega arith)
  where
    by_place : (first + 1 < length marks) ⊎ (length marks ≤ first + 1) → slice_index marks (first + zero) ≤ length bytes
    by_place (inl before) =
        let here : first + zero ≡ first = omega arith in
        subst (λ n. slice_index marks n ≤ length bytes) (sym here) (omega (arith, (is.each first before).ordered, (is.each first before).within))
    by_place (inr last) =
        let here : length marks - 1 ≡ first + zero = omega (arith, last, there) in
        let ends : slice_index marks (first + zero) ≡ length bytes = ap (slice_index marks) (sym here) ∙ is.last in
        omega (arith, ends)

    none : slice_range bytes (slice_index marks first) (slice_index marks (first + zero)) ≡ []
    none =
        let here : first + zero ≡ first = omega arith in
        let nothing : slice_index marks first - slice_index marks first ≡ 0 = omega arith in
        ap (λ n. slice_range bytes (slice_index marks first) (slice_index marks n)) here
        ∙ ap (λ n. take n (drop (slice_index marks first) bytes)) nothing
lies between bytes marks is first (suc count) there =
    let next : first + 1 + count ≡ first + suc count = omega arith in
    let part = is.each first (omega (arith, there)) in
    let rest : Lies between bytes marks (texts_of between bytes marks) (first + 1) count =
    lies between bytes marks is (first + 1) count (omega (arith, there)) in
    let here : drop (length between) (part_of bytes marks first) ≡ text_at (texts_of between bytes marks) first =
    sym (get_or-map-range_with_len (λ k. drop (length between) (part_of bytes marks k)) 0 (length marks - 1) first first [] (omega (arith, there))
    (omega arith)) in
    let behind : slice_index marks (first + 1) ≤ slice_index marks (first + suc count) =
    subst (λ n. slice_index marks (first + 1) ≤ slice_index marks n) next rest.ordered in
    record {
      ordered = omega (arith, part.ordered, behind);
      within = subst (λ n. slice_index marks n ≤ length bytes) next rest.within;
      text =
          range_cut bytes (slice_index marks first) (slice_index marks (first + 1)) (slice_index marks (first + suc count)) part.ordered behind
          ∙ ap (λ t. t ++ slice_range bytes (slice_index marks (first + 1)) (slice_index marks (first + suc count)))
          (part.part ∙ ap (λ t. between ++ t) here)
          ∙ ap (λ n. (between ++ text_at (texts_of between bytes marks) first)
          ++ slice_range bytes (slice_index marks (first + 1)) (slice_index marks n)) (sym next)
          ∙ ap (λ t. (between ++ text_at (texts_of between bytes marks) first) ++ t) rest.text;
    }

-- What was read between two marks, without the first separator where no others stand.
pub record IsRead (between bytes : List ℕ) (texts : List (List ℕ)) (first end : ℕ) (others : Bool) (start stop : ℕ) : Type 0 where
  pub ordered : start ≤ stop
  pub within : stop ≤ length bytes
  pub text : slice_range bytes start stop ≡ after between others (map (text_at texts) (range_with_len first (end - first)))

pub count_is : (between bytes marks : List ℕ) (block : SeparatedTexts) → record { between = between; texts = texts_of between bytes marks } ≡ block
    → IsBlock between bytes marks
    → length marks ≡ length block.texts + 1
count_is between bytes marks block same is =
    let many : length block.texts ≡ length marks - 1 =
    ap (λ b. length b.texts) (sym same) ∙ length-map-range_with_len (λ k. drop (length between) (part_of bytes marks k)) 0 (length marks - 1) in
    omega (arith, many, is.some)

pub is_read : (between bytes marks : List ℕ) (block : SeparatedTexts) (first end : ℕ) (others : Bool) (mark skipped start stop : ℕ)
    → record { between = between; texts = texts_of between bytes marks } ≡ block → IsBlock between bytes marks → first < end
    → end ≤ length block.texts
    → mark ≡ get_or marks first mark → skipped ≡ (if others then 0 else length between) → start ≡ mark + skipped → stop ≡ get_or marks end stop
    → IsRead block.between bytes block.texts first end others start stop
is_read between bytes marks block first end others mark skipped start stop same is some below mark_is skipped_is start_is stop_is =
    subst (λ (b : SeparatedTexts). IsRead b.between bytes b.texts first end others start stop) same (by_others others skipped_is)
  where
    many : length marks ≡ length block.texts + 1
    many = count_is between bytes marks block same is

    count : ℕ
    count = end - first

    ends : first + count ≡ end
    ends = omega (arith, some)

    all : Lies between bytes marks (texts_of between bytes marks) first count
    all = lies between bytes marks is first count (omega (arith, many, below, ends))

    from : mark ≡ slice_index marks first
    from = mark_is ∙ get_or_default marks first mark 0 (omega (arith, many, below, some))

    to : stop ≡ slice_index marks (first + count)
    to = stop_is ∙ get_or_default marks end stop 0 (omega (arith, many, below)) ∙ ap (slice_index marks) (sym ends)

    text : slice_range bytes mark stop ≡ flat_map (λ t. between ++ t) (map (text_at (texts_of between bytes marks)) (range_with_len first count))
    text = ap (λ a. slice_range bytes a stop) from ∙ ap (slice_range bytes (slice_index marks first)) to ∙ all.text

    -- the first separator is passed over
    behind_first : (n : ℕ) (texts : List (List ℕ)) → count ≡ suc n
        → drop (length between) (flat_map (λ t. between ++ t) (map (text_at texts) (range_with_len first count)))
        ≡ after between false (map (text_at texts) (range_with_len first count))
    behind_first n texts is_suc =
        ap (λ k. drop (length between) (flat_map (λ t. between ++ t) (map (text_at texts) (range_with_len first k)))) is_suc
        ∙ ap (drop (length between))
        (append_assoc between (text_at texts first) (flat_map (λ t. between ++ t) (map (text_at texts) (range_with_len (first + 1) n))))
        ∙ drop-append_seam between (text_at texts first ++ flat_map (λ t. between ++ t) (map (text_at texts) (range_with_len (first + 1) n)))
        ∙ ap (λ k. after between false (map (text_at texts) (range_with_len first k))) (sym is_suc)

    has_first : (n : ℕ) (texts : List (List ℕ)) → count ≡ suc n
        → length between ≤ length (flat_map (λ t. between ++ t) (map (text_at texts) (range_with_len first count)))
    has_first n texts is_suc =
        let many_bytes = length-append between (text_at texts first) in
        let and_more =
        length-append (between ++ text_at texts first) (flat_map (λ t. between ++ t) (map (text_at texts) (range_with_len (first + 1) n))) in
        subst (λ k. length between ≤ length (flat_map (λ t. between ++ t) (map (text_at texts) (range_with_len first k)))) (sym is_suc)
        (omega (arith, many_bytes, and_more))

    length-range : stop ≤ length bytes → length (slice_range bytes mark stop) ≡ stop - mark
    length-range inside = length-take-le (stop - mark) (drop mark bytes) (omega (arith, inside, length-drop mark bytes))

    by_others : (b : Bool) → skipped ≡ (if b then 0 else length between) → IsRead between bytes (texts_of between bytes marks) first end b start stop
    by_others true none =
        let same_start : start ≡ mark = omega (arith, start_is, none) in
        record {
          ordered = omega (arith, same_start, from, to, all.ordered);
          within = omega (arith, to, all.within);
          text = ap (λ a. slice_range bytes a stop) same_start ∙ text;
        }
    by_others false one =
        let n : ℕ = count - 1 in
        let next : count ≡ suc n = omega (arith, some) in
        let long : length (slice_range bytes mark stop) ≡ stop - mark = length-range (omega (arith, to, all.within)) in
        let first_text : length (slice_range bytes mark stop)
        ≡ length (flat_map (λ t. between ++ t) (map (text_at (texts_of between bytes marks)) (range_with_len first count))) = ap length text in
        let room : length between
        ≤ length (flat_map (λ t. between ++ t) (map (text_at (texts_of between bytes marks)) (range_with_len first count))) =
        has_first n (texts_of between bytes marks) next in
        let split : stop - mark ≡ length between + (stop - start) = omega (arith, start_is, one, long, first_text, room) in
        record {
          ordered = omega (arith, start_is, one, long, first_text, room, from, to, all.ordered);
          within = omega (arith, to, all.within);
          text =
              ap (λ a. take (stop - start) (drop a bytes)) (start_is ∙ ap (λ k. mark + k) one)
              ∙ ap (take (stop - start)) (sym (drop-drop (length between) mark bytes))
              ∙ sym (drop-take (length between) (stop - start) (drop mark bytes))
              ∙ ap (λ k. drop (length between) (take k (drop mark bytes))) (sym split)
              ∙ ap (drop (length between)) text
              ∙ behind_first n (texts_of between bytes marks) next;
        }

-- a text more
pub no_texts_held : (between : List ℕ) (named : ℕ → List ℕ) → HoldsTexts between named 0 (record { between = between; texts = [] })
no_texts_held between named = record { separated = refl; texts = record { same_count = refl; each = λ n below. absurd (omega (arith, below)) } }

pub more_texts_held : (between : List ℕ) (named : ℕ → List ℕ) (count : ℕ) (block new : SeparatedTexts) (text : List ℕ)
    → HoldsTexts between named count block → text ≡ named count
    → new ≡ with_text block text → HoldsTexts between named (count + 1) new
more_texts_held between named count block new text holds is grown =
    subst (HoldsTexts between named (count + 1)) (sym grown) (record {
      separated = holds.separated;
      texts = record {
        same_count = length-append block.texts (text ∷ []) ∙ ap (λ n. n + 1) holds.texts.same_count;
        each = λ n below. by_place n (cases_lt n count) below;
      };
    })
  where
    by_place : (n : ℕ) → (n < count) ⊎ (count ≤ n) → n < count + 1 → text_at (block.texts ++ text ∷ []) n ≡ named n
    by_place n (inl before) below =
        get_or-append block.texts (text ∷ []) [] n (omega (arith, before, holds.texts.same_count)) ∙ holds.texts.each n before
    by_place n (inr behind) below =
        let here : length block.texts ≡ n = omega (arith, behind, below, holds.texts.same_count) in
        let last : count ≡ n = omega (arith, behind, below) in
        ap (text_at (block.texts ++ text ∷ [])) (sym here) ∙ get_or-append_seam block.texts text [] [] ∙ is ∙ ap named last
