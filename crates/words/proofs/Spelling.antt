-- Words by the numbers of their letters in a list. A list whose letters rise strictly is an embedding: its numbers lie in
-- the order of the letters, so subsequences, congruence, the order of words, forms and first telling rows of the numbers
-- are those of the letters.
use Rattle.std.proofs.Common.{◌≡◌, ℕ, zero, suc, ◌<◌, List, [], ◌∷◌, ◌++◌, length, get_or, take, drop, Some, sym, refl, ap, ◌∙◌, inl, inr, ⊎_elim, arith}
use native.Mathlib.Decide.{dec_lt}
use Rattle.std.specs.List.{slice_get}
use Rattle.std.proofs.iter.runs.Lists.{none-some, same_Some, slice_get_within}
use Rattle.words.specs.Steps.{Below, Spells, nothing, letter, Rising, Covers}
use Rattle.words.specs.Words.{Sub, done, skip, keep, Within, Congruent, Tells, Telling, FirstTelling, IsForm}
use Rattle.words.specs.Words.{Order, LexBefore, here, there, Earlier}
use Rattle.words.proofs.Subsequences.{sub_empty, not_sub_nil, occurs_cons}

-- a letter occurs in a word if it stands at some place
pub occurs_nth : {A : Type 0} {a : A} (w : List A) (i : ℕ) → slice_get w i ≡ Some a → Sub (a ∷ []) w
occurs_nth {a = a} [] i e = absurd (none-some a e)
occurs_nth {a = a} (b ∷ w) zero e = rw (same_Some b a e) (keep (sub_empty w))
occurs_nth (b ∷ w) (suc i) e = skip (occurs_nth w i e)

pub nth_occurs : {A : Type 0} {a : A} {w : List A} → Sub (a ∷ []) w → (i : ℕ) × (slice_get w i ≡ Some a)
nth_occurs (skip s) = let (i, e) = nth_occurs s in (suc i, e)
nth_occurs (keep s) = (0, refl)

pub nth_some : {A : Type 0} (w : List A) (i : ℕ) → i < length w → (a : A) × (slice_get w i ≡ Some a)
nth_some [] i l = absurd (omega arith)
nth_some (a ∷ w) zero l = (a, refl)
nth_some (a ∷ w) (suc i) l = nth_some w i (omega arith)

within_none : {A : Type 0} {k : ℕ} (u v : List A) → ¬ (0 < k) → Within k u v
within_none u v n [] l s = sub_empty v
within_none u v n (a ∷ z) l s = absurd (n (omega arith))

module _ {A : Type 0} {list : List A} where
  -- ── By place ──

  pub spells_length : {ns : List ℕ} {w : List A} → Spells list ns w → length ns ≡ length w
  spells_length nothing = refl
  spells_length (letter e h) = ap suc (spells_length h)

  pub spells_at : {ns : List ℕ} {w : List A} (i : ℕ) → Spells list ns w → i < length ns → slice_get list (get_or ns i 0) ≡ slice_get w i
  spells_at i nothing l = absurd (omega arith)
  spells_at zero (letter e h) l = e
  spells_at (suc i) (letter e h) l = spells_at i h (omega arith)

  pub spells_below : {ns : List ℕ} {w : List A} → Spells list ns w → Below (length list) ns
  spells_below nothing i l = absurd (omega arith)
  spells_below (letter {n = n} {a = a} e h) zero l = slice_get_within list n a e
  spells_below (letter e h) (suc i) l = spells_below h i (omega arith)

  pub spells_append : {ms ns : List ℕ} {u v : List A} → Spells list ms u → Spells list ns v → Spells list (ms ++ ns) (u ++ v)
  spells_append nothing k = k
  spells_append (letter e h) k = letter e (spells_append h k)

  pub spells_push : {ns : List ℕ} {w : List A} (n : ℕ) (a : A) → Spells list ns w → slice_get list n ≡ Some a
      → Spells list (ns ++ n ∷ []) (w ++ a ∷ [])
  spells_push n a h e = spells_append h (letter e nothing)

  pub spells_take : (i : ℕ) {ns : List ℕ} {w : List A} → Spells list ns w → Spells list (take i ns) (take i w)
  spells_take zero h = nothing
  spells_take (suc i) nothing = nothing
  spells_take (suc i) (letter e h) = letter e (spells_take i h)

  pub spells_drop : (i : ℕ) {ns : List ℕ} {w : List A} → Spells list ns w → Spells list (drop i ns) (drop i w)
  spells_drop zero h = h
  spells_drop (suc i) nothing = nothing
  spells_drop (suc i) (letter e h) = spells_drop i h

  -- the numbers determine the word
  pub letters_unique : {ns : List ℕ} {u v : List A} → Spells list ns u → Spells list ns v → u ≡ v
  letters_unique nothing nothing = refl
  letters_unique (letter {a = a} e h) (letter {a = b} f k) = cc (same_Some a b (sym e ∙ f), letters_unique h k)

  -- ── Which words are spelled ──

  -- only letters of the list are spelled,
  pub spells_covers : {ns : List ℕ} {w : List A} → Spells list ns w → Covers list w
  spells_covers nothing a s = absurd (not_sub_nil s)
  spells_covers (letter {n = n} e h) a s =
      ⊎_elim (λ f. rw f (occurs_nth list n e)) (spells_covers h a) (occurs_cons s)

  -- and every word of such letters is.
  pub covers_spells : (w : List A) → Covers list w → (ns : List ℕ) × Spells list ns w
  covers_spells [] h = ([], nothing)
  covers_spells (a ∷ w) h = go (nth_occurs (h a (keep (sub_empty w)))) (covers_spells w (λ b s. h b (skip s)))
    where
      go : (i : ℕ) × (slice_get list i ≡ Some a) → (ns : List ℕ) × Spells list ns w → (ns : List ℕ) × Spells list ns (a ∷ w)
      go (i, e) (ns, k) = (i ∷ ns, letter e k)

  -- ── Subsequences ──

  -- a subsequence of the numbers spells one of the word,
  pub letters_of : {z ns : List ℕ} {w : List A} → Sub z ns → Spells list ns w → (y : List A) × Spells list z y × Sub y w
  letters_of done nothing = ([], nothing, done)
  letters_of (skip s) (letter e h) = let (y, p, t) = letters_of s h in (y, p, skip t)
  letters_of (keep s) (letter {a = a} e h) = let (y, p, t) = letters_of s h in (a ∷ y, letter e p, keep t)

  -- and a subsequence of the word is spelled by one of the numbers.
  pub ranks_of : {y w : List A} {ns : List ℕ} → Sub y w → Spells list ns w → (z : List ℕ) × Spells list z y × Sub z ns
  ranks_of done nothing = ([], nothing, done)
  ranks_of (skip s) (letter e h) = let (z, p, t) = ranks_of s h in (z, p, skip t)
  ranks_of (keep s) (letter {n = n} e h) = let (z, p, t) = ranks_of s h in (n ∷ z, letter e p, keep t)

  pub sub_letters : {z ns : List ℕ} {y w : List A} → Spells list z y → Spells list ns w → Sub z ns → Sub y w
  sub_letters {z} {ns} {y} {w} p h s = go (letters_of s h)
    where
      go : (x : List A) × Spells list z x × Sub x w → Sub y w
      go (x, q, t) = rw (letters_unique p q) t

-- ── A list that rises ──

module _ {A : Type 0} {lt : A → A → Type 0} (list : List A) (order : Order lt) (rising : Rising lt list) where
  -- a letter has one place
  pub same_rank : {a : A} (i j : ℕ) → slice_get list i ≡ Some a → slice_get list j ≡ Some a → i ≡ j
  same_rank {a} i j e f = go (dec_lt i j) (dec_lt j i)
    where
      go : Dec (i < j) → Dec (j < i) → i ≡ j
      go (yes l) d = absurd (order.irreflexive (rising i j a a l e f))
      go (no l) (yes m) = absurd (order.irreflexive (rising j i a a m f e))
      go (no l) (no m) = omega arith

  pub ranks_unique : {ms ns : List ℕ} {w : List A} → Spells list ms w → Spells list ns w → ms ≡ ns
  ranks_unique nothing nothing = refl
  ranks_unique (letter {n = m} e h) (letter {n = n} f k) = cc (same_rank m n e f, ranks_unique h k)

  pub sub_ranks : {z ns : List ℕ} {y w : List A} → Spells list z y → Spells list ns w → Sub y w → Sub z ns
  sub_ranks {z} {ns} {y} p h s = go (ranks_of s h)
    where
      go : (x : List ℕ) × Spells list x y × Sub x ns → Sub z ns
      go (x, q, t) = rw (ranks_unique p q) t

  -- ── Congruence ──

  pub within_letters : {k : ℕ} {us vs : List ℕ} {u v : List A} → Spells list us u → Spells list vs v → Within k us vs
      → Within k u v
  within_letters {k} {us} {vs} {u} {v} p q f y l s = go (ranks_of s p)
    where
      go : (z : List ℕ) × Spells list z y × Sub z us → Sub y v
      go (z, h, t) = sub_letters h q (f z (omega (arith, spells_length h)) t)

  pub within_ranks : {k : ℕ} {us vs : List ℕ} {u v : List A} → Spells list us u → Spells list vs v → Within k u v
      → Within k us vs
  within_ranks {k} {us} {vs} {u} {v} p q f z l s = go (letters_of s p)
    where
      go : (y : List A) × Spells list z y × Sub y u → Sub z vs
      go (y, h, t) = sub_ranks h q (f y (omega (arith, spells_length h)) t)

  pub congruent_letters : {k : ℕ} {us vs : List ℕ} {u v : List A} → Spells list us u → Spells list vs v
      → Congruent k us vs → Congruent k u v
  congruent_letters p q c = (within_letters p q c.0, within_letters q p c.1)

  pub congruent_ranks : {k : ℕ} {us vs : List ℕ} {u v : List A} → Spells list us u → Spells list vs v
      → Congruent k u v → Congruent k us vs
  congruent_ranks p q c = (within_ranks p q c.0, within_ranks q p c.1)

  -- ── The order of words ──

  pub lex_letters : {us vs : List ℕ} {u v : List A} → Spells list us u → Spells list vs v → LexBefore ◌<◌ us vs
      → LexBefore lt u v
  lex_letters nothing _ x = elim x [ ]
  lex_letters (letter _ _) nothing x = elim x [ ]
  lex_letters (letter {n = m} {a = a} e h) (letter {n = n} {a = b} f k) (here l) = here (rising m n a b l e f)
  lex_letters (letter {a = a} e h) (letter {a = b} f k) (there l) =
      rw (same_Some a b (sym e ∙ f)) (there (lex_letters h k l))

  pub earlier_letters : {us vs : List ℕ} {u v : List A} → Spells list us u → Spells list vs v → Earlier ◌<◌ us vs
      → Earlier lt u v
  earlier_letters p q (inl l) = inl (omega (arith, spells_length p, spells_length q))
  earlier_letters p q (inr (e, l)) = inr (omega (arith, spells_length p, spells_length q), lex_letters p q l)

  -- ── Telling rows ──

  pub tells_letters : {zs us vs : List ℕ} {z u v : List A} → Spells list zs z → Spells list us u → Spells list vs v
      → Tells zs us vs → Tells z u v
  tells_letters h p q (s, n) = (sub_letters h p s, λ t. n (sub_ranks h q t))

  pub tells_ranks : {zs us vs : List ℕ} {z u v : List A} → Spells list zs z → Spells list us u → Spells list vs v
      → Tells z u v → Tells zs us vs
  tells_ranks h p q (s, n) = (sub_ranks h p s, λ t. n (sub_letters h q t))

  -- A telling row has only letters of the list, so the first one of the ranks spells the first one of the words.
  pub telling_letters : {zs us vs : List ℕ} {z u v : List A} → Spells list zs z → Spells list us u → Spells list vs v
      → FirstTelling ◌<◌ zs us vs → FirstTelling lt z u v
  telling_letters {zs} {us} {vs} {z} {u} {v} h p q (t, f) =
      (⊎_elim (λ s. inl (tells_letters h p q s)) (λ s. inr (tells_letters h q p s)) t, others)
    where
      against : (y : List A) → ¬ (z ≡ y) → (ys : List ℕ) → Spells list ys y → Telling ys us vs → Earlier lt z y
      against y n ys k s = earlier_letters h k (f ys s (λ e. n (letters_unique (rw e at h) k)))

      others : (y : List A) → Telling y u v → ¬ (z ≡ y) → Earlier lt z y
      others y (inl s) n =
          let (ys, k, _) = ranks_of s.0 p in against y n ys k (inl (tells_ranks k p q s))
      others y (inr s) n =
          let (ys, k, _) = ranks_of s.0 q in against y n ys k (inr (tells_ranks k q p s))

  -- ── Forms ──

  -- a word that is congruent at 1 or more has only letters of the list
  pub congruent_covers : {k : ℕ} {us : List ℕ} {u v : List A} → 0 < k → Spells list us u → Congruent k u v → Covers list v
  congruent_covers l p c a s = spells_covers p a (c.1 (a ∷ []) (omega arith) s)

  -- The form of the ranks spells the form of the word. (At 0 all words are congruent, and the form is the empty word.)
  pub form_letters : {k : ℕ} {us fs : List ℕ} {u f : List A} → Spells list us u → Spells list fs f → IsForm ◌<◌ k us fs
      → IsForm lt k u f
  form_letters {k} {us} {fs} {u} {f} p q (c, g) = (congruent_letters p q c, λ v d n. others v d n (dec_lt 0 k))
    where
      empty : {fs : List ℕ} {f : List A} → Spells list fs f → (¬ (fs ≡ []) → Earlier ◌<◌ fs []) → f ≡ []
      empty nothing g = refl
      empty (letter e h) g =
          ⊎_elim (λ l. absurd (omega arith)) (λ l. absurd (omega (arith, l.0))) (g (λ e. absurd (omega (arith, ap length e))))

      some : (v : List A) → ¬ (f ≡ v) → f ≡ [] → Earlier lt f v
      some [] n e = absurd (n e)
      some (a ∷ v) n e = inl (rw e (omega arith))

      others : (v : List A) → Congruent k u v → ¬ (f ≡ v) → Dec (0 < k) → Earlier lt f v
      others v d n (no l) =
          some v n (empty q (g [] (within_none us [] l, within_none [] us l)))
      others v d n (yes l) =
          let (vs, h) = covers_spells v (congruent_covers l p d) in
          earlier_letters q h (g vs (congruent_ranks p h d) (λ e. n (letters_unique (rw e at q) h)))
