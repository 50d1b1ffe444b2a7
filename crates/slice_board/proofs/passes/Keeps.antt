-- Each step keeps the rule.
use Rattle.std.proofs.Common.{◌≡◌, ℕ, ◌+◌, ◌-◌, ◌*◌, ◌/◌, ◌%◌, ◌^◌, ◌<◌, ◌≤◌, ◌≢◌, ◌⊎◌, List, [], ◌∷◌, ◌++◌, length, get_or, set, sym, refl, ap, ◌∙◌}
use Rattle.std.proofs.Common.{subst, inl, inr, ⊎_elim, arith, max, min, length-set, Option, Some, None}
use mathlib.Core.Logic.{dite}
use mathlib.Core.Option.{none, some}
use native.Mathlib.Decide.{ℕ_discrete, dec_le}
use lib.ListN.{get_elem?}
use lib.Seq.{set-get_or}
use Rattle.std.specs.Int.{bit_at}
use Rattle.std.specs.Int.Bits.{bit_or}
use Rattle.std.proofs.lemmas.Nat.{mul-add-lt, same_from_place}
use Rattle.std.proofs.lemmas.Nat.Bits.{bit_at-lt}
use Rattle.atomic_table.specs.Table.{State, step, keeps, stepped, Allows, Splits, Joins}
use Rattle.atomic_table.proofs.Lists.{at_set, at_snoc, set_again, set_else}
use Rattle.slice_board.specs.Passes.{times, logged_at, logged_word}
use Rattle.slice_board.specs.Boards.{slice_count, words_for, InSlice}
use Rattle.slice_board.specs.Lawful.{shows_at, total, claims_of, halvings_of, IsTrueOf}
use Rattle.slice_board.specs.Steps.{after_claim, after_finding, after_post, after_finish, after_look, after_count, fresh_view}
use Rattle.slice_board.specs.Steps.{halved_view, split_view, joined_view, spent_view}
use Rattle.slice_board.specs.code.Words.{tally_words, done_place, row_place, board_words, LawfulTable}
use Rattle.slice_board.specs.code.Plays.{Sat, load_of, DrawTells, FinishTells, PostTells, LookTells, ShowsOwn, FoundOwn, CountTells, CheckTells}
use Rattle.slice_board.specs.declared.view.About.{About}
use Rattle.slice_board.specs.declared.view.View.{View}
use Rattle.slice_board.proofs.words.Sums.{total-append, total-set, term_le, times-same, times-other, ored, ored_here, ored_else, Grows, ored_grows}
use Rattle.slice_board.proofs.words.Sums.{bit_put, bit_stays, one_bit, one_slice, times-append, logged_at-append, shows_at-append, total_lt}
use Rattle.slice_board.proofs.words.Sums.{logged_here, logged_else, count_here, count_else}
use Rattle.slice_board.proofs.passes.Shares.{no_parts, whole_parts, halved_parts, joined_parts, total_one, set_there}

module _ {T : Type 0} (wants : T → ℕ → ℕ → Type 0) (about : About T) where
  abbrev St : Type 0
  St = State (Unit {0}) (View T)

  abbrev L : St → Type 0
  L = LawfulTable wants about

  abbrev F : List ℕ → View T → Type 0
  F ws = IsTrueOf wants about (board_words about ws)

  abbrev slices : ℕ
  slices = slice_count about.cut

  abbrev width : ℕ
  width = words_for about.cut.bits

  abbrev claim_bit : List ℕ → ℕ → ℕ
  claim_bit ws x = bit_at (get_or ws (x / 64) 0) (x % 64)

  abbrev done_bit : List ℕ → ℕ → ℕ
  done_bit ws x = bit_at (get_or ws (done_place about (x / 64)) 0) (x % 64)

  -- ---- one pass's view changes, and the words with it
  grow : (ws us : List ℕ) (v : View T) → Grows ws us → F ws v → F us v
  grow ws us v g f = record {
    board = f.board;
    spent = f.spent;
    own = f.own;
    found = λ x h. g _ _ (f.found x h);
    seen = λ p q j a b h. g _ _ (f.seen p q j a b h);
    counted = λ k j a h. g _ _ (f.counted k j a h);
  }

  -- where claims are as the bits say, none is made twice
  once_of : (ws : List ℕ) (vs : List (View T)) → ((x : ℕ) → slices ≤ x → claims_of x vs ≡ 0)
      → ((x : ℕ) → x < slices → claims_of x vs ≡ claim_bit ws x) → (x : ℕ) → claims_of x vs ≤ 1
  once_of ws vs below claimed x = dite (dec_le slices x)
      (λ far. omega (arith, below x far))
      (λ near. omega (arith, claimed x (omega arith), bit_at-lt (get_or ws (x / 64) 0) (x % 64)))

  -- what a step owes that changes a view v to w, and the words to ws
  record Change (s : St) (v : View T) (ws : List ℕ) (w : View T) : Type 0 where
    wide : length ws ≡ length s.words
    grows : Grows s.words ws
    fits : F ws w
    share : w.share ≡ v.share
    halvings : w.halvings ≡ v.halvings
    claimed : (x : ℕ) → x < slices → claim_bit ws x + times x v.claimed ≡ claim_bit s.words x + times x w.claimed
    below : (x : ℕ) → slices ≤ x → times x w.claimed ≤ times x v.claimed
    finished : (x : ℕ) → x < slices → done_bit ws x + times x v.finished ≡ done_bit s.words x + times x w.finished
    posted : (p q j : ℕ) → p < about.points → q < width
        → (more : ℕ) × (logged_at p q j w.posted ≡ logged_at p q j v.posted + more)
        × (bit_at (get_or ws (row_place about p q) 0) j ≡ max (bit_at (get_or s.words (row_place about p q) 0) j) (min 1 more))
    within : (p q j : ℕ) → p < about.points → q < width → bit_at (get_or ws (row_place about p q) 0) j ≡ 1 → wants about.wanted p (64 * q + j)
    complete : (x : ℕ) → x < slices → done_bit ws x ≡ 1
        → (p b : ℕ) → p < about.points → wants about.wanted p b → InSlice about.cut x b
        → bit_at (get_or ws (row_place about p (b / 64)) 0) (b % 64) ≡ 1
    padding : (x : ℕ) → slices ≤ x → x / 64 < tally_words about → (claim_bit ws x ≡ 0) × (done_bit ws x ≡ 0)

  moved : (s : St) (l : L s) (id : ℕ) (v w : View T) (ws : List ℕ) → get_elem? s.views id ≡ some v → Change s v ws w
      → L (record { words = ws; homes = s.homes; views = set s.views id w })
  moved s l id v w ws me c =
      let below : (x : ℕ) → slices ≤ x → claims_of x (set s.views id w) ≡ 0 =
      λ x h. omega (arith, total-set (λ o. times x o.claimed) s.views id v w me, l.lawful.below x h, c.below x h) in
      let claimed : (x : ℕ) → x < slices → claims_of x (set s.views id w) ≡ claim_bit ws x =
      λ x h. omega (arith, total-set (λ o. times x o.claimed) s.views id v w me, l.lawful.claimed x h, c.claimed x h) in
      record {
        wide = c.wide ∙ l.wide;
        lawful = record {
          below = below;
          once = once_of ws (set s.views id w) below claimed;
          claimed = claimed;
          posted = λ p q j hp hq. let a = total-set (λ o. logged_at p q j o.posted) s.views id v w me in let b = l.lawful.posted p q j hp hq in
              let d = c.posted p q j hp hq in let d1 = d.1 in let d2 = d.2 in omega arith;
          within = c.within;
          known =
              λ k u e. ⊎_elim (λ h. subst (F ws) h.1 c.fits) (λ h. grow s.words ws u c.grows (l.lawful.known k u h.1)) (at_set s.views id k w u e);
          finished = λ x h. omega (arith, total-set (λ o. times x o.finished) s.views id v w me, l.lawful.finished x h, c.finished x h);
          complete = c.complete;
          padding = c.padding;
          whole = λ k small.
              let same : w.share * 2 ^ (k - w.halvings) ≡ v.share * 2 ^ (k - v.halvings) = λ i. c.share i * 2 ^ (k - c.halvings i) in
              let most = total-set (λ o. o.halvings) s.views id v w me in
              let equal = c.halvings in
              let parts = total-set (λ o. o.share * 2 ^ (k - o.halvings)) s.views id v w me in
              omega (arith, l.lawful.whole k (omega arith));
        };
      }

  -- ---- a draw
  -- the claim bit of x is put
  abbrev claimed_in : St → ℕ → List ℕ
  claimed_in s x = ored s.words (x / 64) (2 ^ (x % 64))

  claims_only : (s : St) (l : L s) (x : ℕ) (v : View T) (cl fo : List ℕ) → x < slices → F (claimed_in s x) (record v { claimed = cl; found = fo })
      → ((y : ℕ) → claim_bit (claimed_in s x) y + times y v.claimed ≡ claim_bit s.words y + times y cl)
      → ((y : ℕ) → slices ≤ y → times y cl ≤ times y v.claimed)
      → Change s v (claimed_in s x) (record v { claimed = cl; found = fo })
  claims_only s l x v cl fo h fits claimed below =
      let wide = l.wide in let i : ℕ = x / 64 in let in_words : i < length s.words = omega arith in
      let stays : (k j : ℕ) → tally_words about ≤ k → bit_at (get_or (claimed_in s x) k 0) j ≡ bit_at (get_or s.words k 0) j =
      λ k j far. bit_stays s.words i (x % 64) k j in_words (λ e. absurd (omega arith)) in
      record {
        wide = length-set s.words i (bit_or (get_or s.words i 0) (2 ^ (x % 64)));
        grows = ored_grows s.words i (2 ^ (x % 64)) in_words;
        fits = fits;
        share = refl;
        halvings = refl;
        claimed = λ y _. claimed y;
        below = below;
        finished = λ y _. ap (λ (n : ℕ). n + times y v.finished) (stays (done_place about (y / 64)) (y % 64) (omega arith));
        posted = λ p q j _ _. (0, omega arith, stays (row_place about p q) j (omega arith) ∙ omega arith);
        within = λ p q j a b e. l.lawful.within p q j a b (sym (stays (row_place about p q) j (omega arith)) ∙ e);
        complete = λ y a e p b hp hw hi. ored_grows s.words i (2 ^ (x % 64))
            in_words _ _ (l.lawful.complete y a (sym (stays (done_place about (y / 64)) (y % 64) (omega arith)) ∙ e) p b hp hw hi);
        padding = λ y far low. let was = l.lawful.padding y far low in (
          bit_stays s.words i (x % 64) (y / 64) (y % 64) in_words (one_bit x y (λ e. omega arith)) ∙ was.0,
          stays (done_place about (y / 64)) (y % 64) (omega arith) ∙ was.1,
        );
      }

  module _ (s : St) (l : L s) (id x : ℕ) (v : View T) (me : get_elem? s.views id ≡ some v) (knows : v.about ≡ Some about) (h : x < slices) where
    in_words : x / 64 < length s.words
    in_words = let wide = l.wide in omega arith

    is_put : claim_bit (claimed_in s x) x ≡ 1
    is_put = bit_put s.words (x / 64) (x % 64) in_words

    kept : (y : ℕ) → y ≢ x → claim_bit (claimed_in s x) y ≡ claim_bit s.words y
    kept y n = bit_stays s.words (x / 64) (x % 64) (y / 64) (y % 64) in_words (one_bit x y n)

    grown : F (claimed_in s x) v
    grown = grow s.words (claimed_in s x) v (ored_grows s.words (x / 64) (2 ^ (x % 64)) in_words) (l.lawful.known id v me)

    draws_new : claim_bit s.words x ≡ 0 → Change s v (claimed_in s x) (after_claim x v)
    draws_new clear = claims_only s l x v (v.claimed ++ x ∷ []) v.found h
        (record {
          board = grown.board;
          spent = λ e. let no_board = (grown.spent e).0 in absurd (cc (knows, no_board));
          own = λ y. let a = grown.own y in let b = times-append y v.claimed (x ∷ []) in omega arith;
          found = grown.found;
          seen = grown.seen;
          counted = grown.counted;
        })
        (λ y. dite (ℕ_discrete y x)
        (λ e. subst (λ (n : ℕ). claim_bit (claimed_in s x) n + times n v.claimed ≡ claim_bit s.words n + times n (v.claimed ++ x ∷ [])) (sym e)
        (let a = is_put in let b = times-same x v.claimed in omega arith))
        (λ n. let a = kept y n in let b = times-other x y v.claimed n in omega arith))
        (λ y far. let b = times-other x y v.claimed (λ e. omega arith) in omega arith)

    draws_old : claim_bit s.words x ≡ 1 → Change s v (claimed_in s x) (after_finding x v)
    draws_old was = claims_only s l x v v.claimed (v.found ++ x ∷ []) h
        (record {
          board = grown.board;
          spent = grown.spent;
          own = grown.own;
          found = λ y some. dite (ℕ_discrete y x) (λ e. subst (λ (n : ℕ). claim_bit (claimed_in s x) n ≡ 1) (sym e) is_put)
              (λ n. grown.found y (let b = times-other x y v.found n in omega arith));
          seen = grown.seen;
          counted = grown.counted;
        })
        (λ y. dite (ℕ_discrete y x)
        (λ e. subst (λ (n : ℕ). claim_bit (claimed_in s x) n + times n v.claimed ≡ claim_bit s.words n + times n v.claimed) (sym e)
        (let a = is_put in omega arith))
        (λ n. let a = kept y n in omega arith))
        (λ y far. omega arith)

  pub draws : (slots id x : ℕ) (m : Sat T) → m.0.about ≡ Some about → x < slices
      → Allows L slots id m (x / 64) (λ n. bit_or n (2 ^ (x % 64))) (DrawTells (step slots (x / 64) (2 ^ (x % 64)) 0 none) m)
  draws slots id x m knows h s l _ at _ =
      dite (ℕ_discrete (claim_bit s.words x) 0)
      (λ clear. (
        after_claim x m.0,
        keeps,
        tt,
        moved s l id m.0 (after_claim x m.0) (claimed_in s x) at (draws_new s l id x m.0 at knows h clear),
        λ y w f. let it = one_slice x y w f in (
          (λ _. λ i. (after_claim (it i) m.0, m.1)),
          λ set. absurd (let c : claim_bit s.words y ≡ 0 = subst (λ (n : ℕ). claim_bit s.words n ≡ 0) it clear in
              let d : claim_bit s.words y ≡ 1 = subst (λ (n : ℕ). bit_at (get_or s.words n 0) (y % 64) ≡ 1) w set in omega arith),
        ),
      ))
      (λ ne. let was : claim_bit s.words x ≡ 1 = (let b = bit_at-lt (get_or s.words (x / 64) 0) (x % 64) in omega arith) in (
        after_finding x m.0,
        keeps,
        tt,
        moved s l id m.0 (after_finding x m.0) (claimed_in s x) at (draws_old s l id x m.0 at knows h was),
        λ y w f. let it = one_slice x y w f in (
          (λ clear. absurd (let c : claim_bit s.words y ≡ 1 = subst (λ (n : ℕ). claim_bit s.words n ≡ 1) it was in
              let d : claim_bit s.words y ≡ 0 = subst (λ (n : ℕ). bit_at (get_or s.words n 0) (y % 64) ≡ 0) w clear in omega arith)),
          λ _. λ i. (after_finding (it i) m.0, m.1),
        ),
      ))

  -- the same at a mask that is computed
  pub draws_by : (slots id x k : ℕ) (m : Sat T) → m.0.about ≡ Some about → x < slices → k ≡ 2 ^ (x % 64)
      → Allows L slots id m (x / 64) (λ n. bit_or n k) (DrawTells (step slots (x / 64) k 0 none) m)
  draws_by slots id x k m knows h e =
      subst (λ (j : ℕ). Allows L slots id m (x / 64) (λ n. bit_or n j) (DrawTells (step slots (x / 64) j 0 none) m)) (sym e)
      (draws slots id x m knows h)

  -- ---- split, join, and the load after a join
  -- what a pass knows at a word that does not change
  unmoved : (s : St) (l : L s) (i id : ℕ) (m : Sat T) → get_elem? s.views id ≡ some m.0 → L (stepped s i (get_or s.words i 0) id m.1 m.0 keeps)
  unmoved s l i id m at = subst (λ (p : List ℕ × List (View T)). L (record { words = p.0; homes = s.homes; views = p.1 }))
      (λ j. (sym (set-get_or s.words i 0) j, sym (set_again s.views id m.0 at) j)) l

  -- a load by which a pass learns that no slice stands twice among its claims
  pub checks : (slots id i : ℕ) (m : Sat T) → Allows L slots id m i (λ n. n) (CheckTells (step slots i 0 0 none) m)
  checks slots id i m s l _ at _ = (
    m.0,
    keeps,
    tt,
    unmoved s l i id m at,
    (refl, λ x. omega (arith, term_le (λ o. times x o.claimed) s.views id m.0 at, l.lawful.once x)),
  )

  fresh_fits : (ws : List ℕ) (o : Option (About T)) (share halvings : ℕ) → ((known : About T) → o ≡ Some known → known ≡ about)
      → (share ≡ 0 → o ≡ None) → F ws (fresh_view o share halvings)
  fresh_fits ws o share halvings board no_share = record {
    board = board;
    spent = λ e. (no_share e, refl);
    own = λ x. omega arith;
    found = λ x h. absurd (omega arith);
    seen = λ p q j a b h. absurd (omega arith);
    counted = λ k j a h. absurd (omega arith);
  }

  pub splits : (id : ℕ) (v : View T) → Splits L id v (halved_view v) (split_view v)
  splits id v s l at =
      let vs = set s.views id (halved_view v) in
      let new : View T = split_view v in
      let f = l.lawful.known id v at in
      let same : (k : View T → ℕ) → k (halved_view v) ≡ k v → k new ≡ 0 → total k (vs ++ new ∷ []) ≡ total k s.views =
      λ k e h. omega (arith, total-append k vs (new ∷ []), total-set k s.views id v (halved_view v) at) in
      let below : (x : ℕ) → slices ≤ x → claims_of x (vs ++ new ∷ []) ≡ 0 =
      λ x h. same (λ o. times x o.claimed) refl refl ∙ l.lawful.below x h in
      let claimed : (x : ℕ) → x < slices → claims_of x (vs ++ new ∷ []) ≡ claim_bit s.words x =
      λ x h. same (λ o. times x o.claimed) refl refl ∙ l.lawful.claimed x h in
      record {
        wide = l.wide;
        lawful = record {
          below = below;
          once = once_of s.words (vs ++ new ∷ []) below claimed;
          claimed = claimed;
          posted = λ p q j hp hq. ap (λ (n : ℕ). min 1 n) (same (λ o. logged_at p q j o.posted) refl refl) ∙ l.lawful.posted p q j hp hq;
          within = l.lawful.within;
          known = λ k u e. ⊎_elim
              (λ h. ⊎_elim
              (λ i. subst (F s.words) i.1
              (record { board = f.board; spent = f.spent; own = f.own; found = f.found; seen = f.seen; counted = f.counted }))
              (λ i. l.lawful.known k u i.1) (at_set s.views id k (halved_view v) u h))
              (λ h. subst (F s.words) h (fresh_fits s.words v.about v.share (v.halvings + 1) f.board (λ e. (f.spent e).0)))
              (at_snoc vs new u k e);
          finished = λ x h. same (λ o. times x o.finished) refl refl ∙ l.lawful.finished x h;
          complete = l.lawful.complete;
          padding = l.lawful.padding;
          whole = λ k small.
              let most = total-append (λ o. o.halvings) vs (new ∷ []) in
              let more = total-set (λ o. o.halvings) s.views id v (halved_view v) at in
              let mine = term_le (λ o. o.halvings) s.views id v at in
              let all = total-append (λ o. o.share * 2 ^ (k - o.halvings)) vs (new ∷ []) in
              let half = total-set (λ o. o.share * 2 ^ (k - o.halvings)) s.views id v (halved_view v) at in
              omega (arith, halved_parts v.share v.halvings k (omega arith), l.lawful.whole k (omega arith));
        };
      }

  no_board : (known : About T) → None ≡ Some known → known ≡ about
  no_board known e = absurd (cc)

  pub joins : (id : ℕ) (v : View T) (other : ℕ) (w : View T) → Joins L id v other w (joined_view v w) spent_view
  joins id v other w s l at apart there =
      let vs = set s.views id (joined_view v w) in
      let them : get_elem? s.views other ≡ some w = sym (set_else s.views id other (joined_view v w) apart) ∙ there in
      let f = l.lawful.known id v at in let g = l.lawful.known other w them in
      let once : (k : View T → ℕ) → k spent_view ≡ 0 → k (joined_view v w) ≡ k v + k w → total k (set vs other spent_view) ≡ total k s.views =
      λ k e h. let a = total-set k s.views id v (joined_view v w) at in let b = total-set k vs other w spent_view there in omega arith in
      let below : (x : ℕ) → slices ≤ x → claims_of x (set vs other spent_view) ≡ 0 =
      λ x h. once (λ o. times x o.claimed) refl (times-append x v.claimed w.claimed) ∙ l.lawful.below x h in
      let claimed : (x : ℕ) → x < slices → claims_of x (set vs other spent_view) ≡ claim_bit s.words x =
      λ x h. once (λ o. times x o.claimed) refl (times-append x v.claimed w.claimed) ∙ l.lawful.claimed x h in
      record {
        wide = l.wide;
        lawful = record {
          below = below;
          once = once_of s.words (set vs other spent_view) below claimed;
          claimed = claimed;
          posted = λ p q j hp hq. ap (λ (n : ℕ). min 1 n) (once (λ o. logged_at p q j o.posted) refl (logged_at-append p q j v.posted w.posted))
              ∙ l.lawful.posted p q j hp hq;
          within = l.lawful.within;
          known = λ k u e. ⊎_elim (λ h. subst (F s.words) h.1 (fresh_fits s.words None 0 0 no_board (λ _. refl)))
              (λ h. ⊎_elim (λ i. subst (F s.words) i.1 (record {
                board = f.board;
                spent = λ e.
                    let mine = f.spent (no_parts v.share w.halvings (omega arith)) in
                    let theirs = g.spent (no_parts w.share v.halvings (omega arith)) in
                    (mine.0, λ j. mine.1 j ++ theirs.1 j);
                own = λ x. let a = f.own x in let b = g.own x in let c = times-append x v.finished w.finished in
                    let d = times-append x v.claimed w.claimed in omega arith;
                found = λ x some. let c = times-append x v.found w.found in
                    dite (dec_le 1 (times x v.found)) (λ h. f.found x h) (λ n. g.found x (omega arith));
                seen = λ p q j hp hq some. let c = logged_at-append p q j v.seen w.seen in
                    dite (dec_le 1 (logged_at p q j v.seen)) (λ h. f.seen p q j hp hq h) (λ n. g.seen p q j hp hq (omega arith));
                counted = λ i j hi some. let c = shows_at-append i j v.counted w.counted in
                    dite (dec_le 1 (shows_at i j v.counted)) (λ h. f.counted i j hi h) (λ n. g.counted i j hi (omega arith));
              })) (λ i. l.lawful.known k u i.1) (at_set s.views id k (joined_view v w) u h.1)) (at_set vs other k spent_view u e);
          finished = λ x h. once (λ o. times x o.finished) refl (times-append x v.finished w.finished) ∙ l.lawful.finished x h;
          complete = l.lawful.complete;
          padding = l.lawful.padding;
          whole = λ k small.
              let most = once (λ o. o.halvings) refl refl in
              let here = set_else vs other id spent_view (λ e. apart (sym e)) ∙ set_there s.views id v (joined_view v w) at in
              let mine = term_le (λ o. o.halvings) (set vs other spent_view) id (joined_view v w) here in
              once (λ o. o.share * 2 ^ (k - o.halvings)) (omega arith) (joined_parts v.share v.halvings w.share w.halvings k (omega arith))
              ∙ l.lawful.whole k (omega arith);
        };
      }

  -- ---- finishing
  -- all that is wanted of the slice is among what the pass posted
  abbrev pub IsPosted : View T → ℕ → Type 0
  IsPosted v x = (p b : ℕ) → p < about.points → wants about.wanted p b → InSlice about.cut x b
      → (b / 64 < width) × (0 < logged_at p (b / 64) (b % 64) v.posted)

  -- a slice that a pass holds is not marked as finished
  not_done : (s : St) (l : L s) (id x : ℕ) (v : View T) → get_elem? s.views id ≡ some v → x < slices → times x v.finished < times x v.claimed
      → done_bit s.words x ≡ 0
  not_done s l id x v me h held = let a = l.lawful.finished x h in let b = l.lawful.once x in
      let c = total_lt (λ o. times x o.finished) (λ o. times x o.claimed) s.views (λ k o e. (l.lawful.known k o e).own x) id v me held in omega arith

  module _ (s : St) (l : L s) (id x : ℕ) (v : View T) (me : get_elem? s.views id ≡ some v) (h : x < slices)
      (held : times x v.finished < times x v.claimed) (all : IsPosted v x) where
    abbrev done_word : ℕ
    done_word = done_place about (x / 64)

    abbrev done_in : List ℕ
    done_in = ored s.words done_word (2 ^ (x % 64))

    has_word : done_word < length s.words
    has_word = let wide = l.wide in omega arith

    is_clear : done_bit s.words x ≡ 0
    is_clear = not_done s l id x v me h held

    stays_put : (k j : ℕ) → (k ≡ done_word → j ≢ x % 64) → bit_at (get_or done_in k 0) j ≡ bit_at (get_or s.words k 0) j
    stays_put k j n = bit_stays s.words done_word (x % 64) k j has_word n

    its_rows : (p b : ℕ) → p < about.points → wants about.wanted p b → InSlice about.cut x b
        → bit_at (get_or s.words (row_place about p (b / 64)) 0) (b % 64) ≡ 1
    its_rows p b hp hw hi =
        let a = all p b hp hw hi in
        let a1 = a.1 in
        let c = l.lawful.posted p (b / 64) (b % 64) hp a.0 in
        let d = term_le (λ o. logged_at p (b / 64) (b % 64) o.posted) s.views id v me in
        let e = bit_at-lt (get_or s.words (row_place about p (b / 64)) 0) (b % 64) in omega arith

    finishes_one : Change s v done_in (after_finish x v)
    finishes_one = let f = grow s.words done_in v (ored_grows s.words done_word (2 ^ (x % 64)) has_word) (l.lawful.known id v me) in record {
      wide = length-set s.words done_word (bit_or (get_or s.words done_word 0) (2 ^ (x % 64)));
      grows = ored_grows s.words done_word (2 ^ (x % 64)) has_word;
      share = refl;
      halvings = refl;
      fits = record {
        board = f.board;
        spent = f.spent;
        own = λ y. dite (ℕ_discrete y x) (λ e. subst (λ (n : ℕ). times n (v.finished ++ x ∷ []) ≤ times n v.claimed) (sym e)
            (let a = times-same x v.finished in omega arith)) (λ n. let a = times-other x y v.finished n in let b = f.own y in omega arith);
        found = f.found;
        seen = f.seen;
        counted = f.counted;
      };
      claimed = λ y hy. ap (λ (n : ℕ). n + times y v.claimed) (stays_put (y / 64) (y % 64) (λ e. absurd (omega arith)));
      below = λ y far. omega arith;
      finished = λ y hy. dite (ℕ_discrete y x)
          (λ e. subst (λ (n : ℕ). done_bit done_in n + times n v.finished ≡ done_bit s.words n + times n (v.finished ++ x ∷ [])) (sym e)
          (let a : done_bit done_in x ≡ 1 = bit_put s.words done_word (x % 64) has_word in let b = times-same x v.finished in let c = is_clear in
          omega arith))
          (λ n. let a : done_bit done_in y ≡ done_bit s.words y = stays_put (done_place about (y / 64)) (y % 64) (λ e. one_bit x y n (omega arith)) in
          let b = times-other x y v.finished n in omega arith);
      posted = λ p q j _ _. (0, omega arith, stays_put (row_place about p q) j (λ e. absurd (omega arith)) ∙ omega arith);
      within = λ p q j a b e. l.lawful.within p q j a b (sym (stays_put (row_place about p q) j (λ e. absurd (omega arith))) ∙ e);
      complete = λ y hy e p b hp hw hi. stays_put (row_place about p (b / 64)) (b % 64) (λ e. absurd (omega arith)) ∙ dite (ℕ_discrete y x)
          (λ same. its_rows p b hp hw (subst (λ (n : ℕ). InSlice about.cut n b) same hi))
          (λ n. l.lawful.complete y hy (sym (stays_put (done_place about (y / 64)) (y % 64) (λ e. one_bit x y n (omega arith))) ∙ e) p b hp hw hi);
      padding = λ y far low. let was = l.lawful.padding y far low in (
        stays_put (y / 64) (y % 64) (λ e. absurd (omega arith)) ∙ was.0,
        stays_put (done_place about (y / 64)) (y % 64) (λ e. one_bit x y (λ same. omega arith) (omega arith)) ∙ was.1,
      );
    }

  -- what a pass says that it knows of the board is so
  same_board : (s : St) (l : L s) (id : ℕ) (v : View T) (known : About T) → get_elem? s.views id ≡ some v → v.about ≡ Some known → about ≡ known
  same_board s l id v known me e = sym ((l.lawful.known id v me).board known e)

  pub ends : (slots id x : ℕ) (m : Sat T) → x < slices → times x m.0.finished < times x m.0.claimed → IsPosted m.0 x
      → Allows L slots id m (done_place about (x / 64)) (λ n. bit_or n (2 ^ (x % 64)))
      (FinishTells (step slots (done_place about (x / 64)) (2 ^ (x % 64)) 0 none) m)
  ends slots id x m h held all s l _ at _ = (
    after_finish x m.0,
    keeps,
    tt,
    moved s l id m.0 (after_finish x m.0) (done_in s l id x m.0 at h held all) at (finishes_one s l id x m.0 at h held all),
    λ known is y w f. let places : tally_words about ≡ tally_words known = ap tally_words (same_board s l id m.0 known at is) in
        let it = one_slice x y (omega arith) f in λ i. (after_finish (it i) m.0, m.1),
  )

  -- ---- posting
  module _ (s : St) (l : L s) (id p q m : ℕ) (v : View T) (me : get_elem? s.views id ≡ some v) (hp : p < about.points) (hq : q < width)
      (wanted : (j : ℕ) → bit_at m j ≡ 1 → wants about.wanted p (64 * q + j)) where
    abbrev row_in : List ℕ
    row_in = ored s.words (row_place about p q) m

    has_row : row_place about p q < length s.words
    has_row = let wide = l.wide in let a : q * about.points + p < about.points * width = mul-add-lt q about.points p width hq hp in omega arith

    low_stays : (k : ℕ) → k < 2 * tally_words about → get_or row_in k 0 ≡ get_or s.words k 0
    low_stays k h = ored_else s.words (row_place about p q) m k (λ e. omega arith)

    row_cases : (p' q' : ℕ) → p' < about.points
        → ((p ≡ p') × (q ≡ q')) ⊎ (¬ ((p ≡ p') × (q ≡ q')) × (get_or row_in (row_place about p' q') 0 ≡ get_or s.words (row_place about p' q') 0))
    row_cases p' q' h = dite (ℕ_discrete (row_place about p' q') (row_place about p q))
        (λ e. let same = same_from_place q p q' p' about.points hp h (omega arith) in inl (same.1, same.0))
        (λ n. inr ((λ e. n (λ i. row_place about (sym e.0 i) (sym e.1 i))), ored_else s.words (row_place about p q) m (row_place about p' q') n))

    posts_one : Change s v row_in (after_post (logged_word p q m) v)
    posts_one = let g = ored_grows s.words (row_place about p q) m has_row in let f = grow s.words row_in v g (l.lawful.known id v me) in record {
      wide = length-set s.words (row_place about p q) (bit_or (get_or s.words (row_place about p q) 0) m);
      grows = g;
      fits = record { board = f.board; spent = f.spent; own = f.own; found = f.found; seen = f.seen; counted = f.counted };
      share = refl;
      halvings = refl;
      claimed = λ y hy. ap (λ (n : ℕ). bit_at n (y % 64) + times y v.claimed) (low_stays (y / 64) (omega arith));
      below = λ y far. omega arith;
      finished = λ y hy. ap (λ (n : ℕ). bit_at n (y % 64) + times y v.finished) (low_stays (done_place about (y / 64)) (omega arith));
      posted = λ p' q' j hp' _. ⊎_elim
          (λ e. subst (λ (a : ℕ × ℕ). (more : ℕ) × (logged_at a.0 a.1 j (v.posted ++ logged_word p q m ∷ []) ≡ logged_at a.0 a.1 j v.posted + more)
          × (bit_at (get_or row_in (row_place about a.0 a.1) 0) j ≡ max (bit_at (get_or s.words (row_place about a.0 a.1) 0) j) (min 1 more)))
          (λ i. (e.0 i, e.1 i))
          (bit_at m j, logged_here p q m j v.posted, ored_here s.words (row_place about p q) m j has_row ∙ (let b = bit_at-lt m j in omega arith)))
          (λ n. (0, logged_else p q m p' q' j v.posted n.0 ∙ omega arith, ap (λ (n : ℕ). bit_at n j) n.1 ∙ omega arith)) (row_cases p' q' hp');
      within = λ p' q' j hp' hq' is. ⊎_elim
          (λ e. subst (λ (a : ℕ × ℕ). bit_at (get_or row_in (row_place about a.0 a.1) 0) j ≡ 1 → wants about.wanted a.0 (64 * a.1 + j))
          (λ i. (e.0 i, e.1 i))
          (λ is. dite (ℕ_discrete (bit_at m j) 1) (wanted j) (λ n.
          l.lawful.within p q j hp hq (let a = ored_here s.words (row_place about p q) m j has_row in let b = bit_at-lt m j in
          let c = bit_at-lt (get_or s.words (row_place about p q) 0) j in omega arith))) is)
          (λ n. l.lawful.within p' q' j hp' hq' (ap (λ (n : ℕ). bit_at n j) (sym n.1) ∙ is)) (row_cases p' q' hp');
      complete = λ y hy e p' b hp' hw hi. g _ _ (l.lawful.complete y hy
          (ap (λ (n : ℕ). bit_at n (y % 64)) (sym (low_stays (done_place about (y / 64)) (omega arith))) ∙ e) p' b hp' hw hi);
      padding = λ y far low. let was = l.lawful.padding y far low in (
        ap (λ (n : ℕ). bit_at n (y % 64)) (low_stays (y / 64) (omega arith)) ∙ was.0,
        ap (λ (n : ℕ). bit_at n (y % 64)) (low_stays (done_place about (y / 64)) (omega arith)) ∙ was.1,
      );
    }

  -- two places of rows that are one are of one word
  same_place : (known : About T) (p q p' q' : ℕ) → about ≡ known → p < about.points → p' < known.points → row_place about p q ≡ row_place known p' q'
      → (p ≡ p') × (q ≡ q')
  same_place known p q p' q' same h h' w =
      let there : row_place known p' q' ≡ row_place about p' q' = ap (λ (a : About T). row_place a p' q') (sym same) in
      let one = same_from_place q p q' p' about.points h (subst (λ (a : About T). p' < a.points) (sym same) h') (omega arith) in
      (one.1, one.0)

  pub puts : (slots id p q k : ℕ) (m : Sat T) → p < about.points → q < width → ((j : ℕ) → bit_at k j ≡ 1 → wants about.wanted p (64 * q + j))
      → Allows L slots id m (row_place about p q) (λ n. bit_or n k) (PostTells (step slots (row_place about p q) k 0 none) m)
  puts slots id p q k m hp hq hk s l _ at _ = (
    after_post (logged_word p q k) m.0,
    keeps,
    tt,
    moved s l id m.0 (after_post (logged_word p q k) m.0) (row_in s l id p q k m.0 at hp hq hk) at (posts_one s l id p q k m.0 at hp hq hk),
    λ known is p' q' h w. let it = same_place known p q p' q' (same_board s l id m.0 known at is) hp h w in
        λ i. (after_post (logged_word (it.0 i) (it.1 i) k) m.0, m.1),
  )

  -- ---- looking and counting
  -- a load after which the seat knows w
  read_only : (s : St) (l : L s) (i id : ℕ) (m : Sat T) (v w : View T) → get_elem? s.views id ≡ some v → Change s v s.words w
      → L (stepped s i (get_or s.words i 0) id m.1 w keeps)
  read_only s l i id m v w me c = subst (λ (ws : List ℕ). L (record { words = ws; homes = s.homes; views = set s.views id w }))
      (sym (set-get_or s.words i 0)) (moved s l id v w s.words me c)

  same_words : (s : St) (l : L s) (v w : View T) → F s.words w → w.share ≡ v.share → w.halvings ≡ v.halvings → w.claimed ≡ v.claimed
      → w.finished ≡ v.finished → w.posted ≡ v.posted → Change s v s.words w
  same_words s l v w f share halvings a b d = record {
    wide = refl;
    grows = λ k j e. e;
    fits = f;
    share = share;
    halvings = halvings;
    claimed = λ y hy. ap (λ (c : List ℕ). claim_bit s.words y + times y c) (sym a);
    below = λ y far. let e = ap (times y) a in omega arith;
    finished = λ y hy. ap (λ (c : List ℕ). done_bit s.words y + times y c) (sym b);
    posted = λ p q j _ _. (0, ap (logged_at p q j) d ∙ omega arith, omega arith);
    within = l.lawful.within;
    complete = l.lawful.complete;
    padding = l.lawful.padding;
  }

  abbrev Says : ℕ → Sat T → Sat T → ℕ × (ℕ × About T) → Type 0
  Says r m n a = (n ≡ (after_look (logged_word a.0 a.1.0 r) m.0, m.1)) × ((j : ℕ) → 0 < logged_at a.0 a.1.0 j m.0.posted → bit_at r j ≡ 1)
      × ((j : ℕ) → 0 < logged_at a.0 a.1.0 j m.0.seen → bit_at r j ≡ 1) × ((j : ℕ) → bit_at r j ≡ 1 → wants a.1.1.wanted a.0 (64 * a.1.0 + j))

  pub looks : (slots id p q : ℕ) (m : Sat T) → p < about.points → q < width
      → Allows L slots id m (row_place about p q) (λ n. n) (LookTells wants (step slots (row_place about p q) 0 0 none) m)
  looks slots id p q m hp hq s l _ at _ = let v = m.0 in let f = l.lawful.known id v at in let r : ℕ = get_or s.words (row_place about p q) 0 in (
    after_look (logged_word p q r) v,
    keeps,
    tt,
    read_only s l (row_place about p q) id m v (after_look (logged_word p q r) v) at (same_words s l v (after_look (logged_word p q r) v) (record {
      board = f.board;
      spent = f.spent;
      own = f.own;
      found = f.found;
      seen = λ p' q' j hp' hq' some-seen. dite (ℕ_discrete p p')
          (λ e. dite (ℕ_discrete q q')
          (λ g. subst (λ (a : ℕ × ℕ). 0 < logged_at a.0 a.1 j (v.seen ++ logged_word p q r ∷ []) → bit_at
          (get_or s.words (row_place about a.0 a.1) 0) j ≡ 1)
          (λ i. (e i, g i))
          (λ h. dite (dec_le 1 (logged_at p q j v.seen)) (f.seen p q j hp hq) (λ n. let a = logged_here p q r j v.seen in let b = bit_at-lt r j in
          omega arith)) some-seen)
          (λ n. f.seen p' q' j hp' hq' (let a = logged_else p q r p' q' j v.seen (λ both. n both.1) in omega arith)))
          (λ n. f.seen p' q' j hp' hq' (let a = logged_else p q r p' q' j v.seen (λ both. n both.0) in omega arith));
      counted = f.counted;
    }) refl refl refl refl refl),
    λ known is p' q' h _ w. let same = same_board s l id m.0 known at is in let it = same_place known p q p' q' same hp h w in
        subst (Says r m (after_look (logged_word p q r) v, m.1))
        (λ i. (it.0 i, (it.1 i, same i))) (
          refl,
          (λ j some-posted. let a = l.lawful.posted p q j hp hq in let b = term_le (λ o. logged_at p q j o.posted) s.views id v at in
              let c = bit_at-lt r j in omega arith),
          (λ j h. f.seen p q j hp hq h),
          (λ j h. l.lawful.within p q j hp hq h),
        ),
  )

  -- Where a pass has the whole board, no other one has claimed a slice.
  found_own : (s : St) (l : L s) (id : ℕ) (v : View T) → get_elem? s.views id ≡ some v → FoundOwn slices v.share v.halvings v.claimed v.found
  found_own s l id v me whole x low was_found =
      let k : ℕ = halvings_of s.views in
      let most = term_le (λ o. o.halvings) s.views id v me in
      let mine : v.share * 2 ^ (k - v.halvings) ≡ 2 ^ k =
      ap (λ (n : ℕ). n * 2 ^ (k - v.halvings)) whole ∙ whole_parts v.halvings k (omega arith) in
      let all = l.lawful.whole k (omega arith) ∙ sym mine in
      let only : claims_of x s.views ≡ times x v.claimed = total_one (λ o. times x o.claimed) (λ o. o.share * 2 ^ (k - o.halvings)) s.views
      (λ j o at e. ap (times x) ((l.lawful.known j o at).spent (no_parts o.share (k - o.halvings) e)).1) id v me all in
      let set = (l.lawful.known id v me).found x was_found in
      omega (arith, l.lawful.claimed x low)

  abbrev Tells : ℕ → Sat T → Sat T → ℕ × About T → Type 0
  Tells r m n a = (n ≡ (after_count (load_of a.0 r) m.0, m.1)) × ShowsOwn (slice_count a.1.cut) m.0.claimed m.0.finished a.0 r
      × FoundOwn (slice_count a.1.cut) m.0.share m.0.halvings m.0.claimed m.0.found

  pub tells : (slots id k : ℕ) (m : Sat T) → k < tally_words about
      → Allows L slots id m (done_place about k) (λ n. n) (CountTells (step slots (done_place about k) 0 0 none) m)
  tells slots id k m hk s l _ at _ = let v = m.0 in let f = l.lawful.known id v at in let r : ℕ = get_or s.words (done_place about k) 0 in (
    after_count (load_of k r) v,
    keeps,
    tt,
    read_only s l (done_place about k) id m v (after_count (load_of k r) v) at (same_words s l v (after_count (load_of k r) v) (record {
      board = f.board;
      spent = f.spent;
      own = f.own;
      found = f.found;
      seen = f.seen;
      counted = λ i j hi some-told. dite (ℕ_discrete k i)
          (λ e. subst (λ (a : ℕ). 0 < shows_at a j (v.counted ++ load_of k r ∷ []) → bit_at (get_or s.words (done_place about a) 0) j ≡ 1) e
          (λ h. dite (dec_le 1 (shows_at k j v.counted)) (f.counted k j hk) (λ n. let a = count_here k r j v.counted in let b = bit_at-lt r j in
          omega arith)) some-told)
          (λ n. f.counted i j hi (let a = count_else k r i j v.counted n in omega arith));
    }) refl refl refl refl refl),
    λ known is i hi w. let same = same_board s l id m.0 known at is in
        let it : k ≡ i = (let e = ap tally_words same in omega arith) in subst (Tells r m (after_count (load_of k r) v, m.1)) (λ j. (it j, same j)) (
          refl,
          record {
            has_finished = λ x low word own. let a = l.lawful.finished x low in let b = term_le (λ o. times x o.finished) s.views id v at in
                let c = bit_at-lt (get_or s.words (done_place about (x / 64)) 0) (x % 64) in
                ap (λ (n : ℕ). bit_at (get_or s.words (done_place about n) 0) (x % 64)) (sym word)
                ∙ (let d : done_bit s.words x ≡ 1 = omega arith in d);
            lacks_held = λ x low word held. ap (λ (n : ℕ). bit_at (get_or s.words (done_place about n) 0) (x % 64)) (sym word)
                ∙ not_done s l id x v at low held;
          },
          found_own s l id v at,
        ),
  )

  -- ---- the same at a word and a mask that are computed
  pub puts_at : (slots id p q k i : ℕ) (m : Sat T) → p < about.points → q < width → ((j : ℕ) → bit_at k j ≡ 1 → wants about.wanted p (64 * q + j))
      → i ≡ row_place about p q
      → Allows L slots id m i (λ n. bit_or n k) (PostTells (step slots i k 0 none) m)
  puts_at slots id p q k i m hp hq hk e =
      subst (λ (j : ℕ). Allows L slots id m j (λ n. bit_or n k) (PostTells (step slots j k 0 none) m)) (sym e) (puts slots id p q k m hp hq hk)

  pub looks_at : (slots id p q i : ℕ) (m : Sat T) → p < about.points → q < width → i ≡ row_place about p q
      → Allows L slots id m i (λ n. n) (LookTells wants (step slots i 0 0 none) m)
  looks_at slots id p q i m hp hq e =
      subst (λ (j : ℕ). Allows L slots id m j (λ n. n) (LookTells wants (step slots j 0 0 none) m)) (sym e) (looks slots id p q m hp hq)

  pub ends_at : (slots id x k i : ℕ) (m : Sat T) → x < slices → times x m.0.finished < times x m.0.claimed → IsPosted m.0 x → k ≡ 2 ^ (x % 64)
      → i ≡ done_place about (x / 64)
      → Allows L slots id m i (λ n. bit_or n k) (FinishTells (step slots i k 0 none) m)
  ends_at slots id x k i m h held all e f =
      subst (λ (a : ℕ × ℕ). Allows L slots id m a.0 (λ n. bit_or n a.1) (FinishTells (step slots a.0 a.1 0 none) m)) (λ j. (sym f j, sym e j))
      (ends slots id x m h held all)

  pub tells_at : (slots id k i : ℕ) (m : Sat T) → k < tally_words about → i ≡ done_place about k
      → Allows L slots id m i (λ n. n) (CountTells (step slots i 0 0 none) m)
  tells_at slots id k i m h e =
      subst (λ (j : ℕ). Allows L slots id m j (λ n. n) (CountTells (step slots j 0 0 none) m)) (sym e) (tells slots id k m h)
