-- The degree of two words: the length of a shortest telling row, counted up to a cap. It follows a letter that is put in
-- front of a word, it is the least coordinate between two end parts of one word, and it is found letter by letter from what
-- follows the first occurrences in both words.
use Rattle.std.proofs.Common.{◌≡◌, ℕ, suc, ◌<◌, ◌≤◌, min, max, ◌⊎◌, List, [], ◌∷◌, ◌++◌, length, take, drop, sym, refl, inl, inr, ⊎_elim, arith, length-take}
use native.Mathlib.Decide.{dec_lt, dec_le}
use mathlib.Core.List.{List-discrete}
use Rattle.std.proofs.Math.Nat.{min-eq_left, min-eq_right, max-eq_left, max-eq_right}
pub use Rattle.words.specs.Degrees.{Degree, Follow, both, first_only, second_only, neither}
use Rattle.words.specs.Words.{Sub, skip, Within, Congruent, Telling}
use Rattle.words.proofs.Subsequences.{sub_empty, sub_refl, sub_trans, sub_length, sub_whole, sub_take, sub_back, sub?}
use Rattle.words.proofs.Subsequences.{not_sub_nil, strip_other, occurs_head, occurs_at, within_sub, within_trans, within_occurs}
use Rattle.words.proofs.Subsequences.{congruent_refl, congruent_sym, congruent_less, congruent_telling, congruent_after}
use Rattle.words.proofs.Subsequences.{after, after_same, after_other, first_occurrence}
use Rattle.words.proofs.Coordinates.{right, rights, block}

module _ {A : Type 0} where
  pub degree_refl : (K : ℕ) (w : List A) → Degree K K w w
  degree_refl K w = (omega arith, λ k l. (λ c. l, λ h. congruent_refl k w))

  pub degree_sym : {K d : ℕ} {u v : List A} → Degree K d u v → Degree K d v u
  degree_sym (l, f) = (l, λ k h. (λ c. (f k h).0 (congruent_sym c), λ b. congruent_sym ((f k h).1 b)))

  -- The degree of two end parts of a word, from that of the longer and the shorter one.
  pub degree_parts : {K d : ℕ} (w : List A) (here there : ℕ) → Degree K d (drop (min here there) w) (drop (max here there) w)
      → Degree K d (drop here w) (drop there w)
  degree_parts {K} {d} w here there f = go (dec_le here there)
    where
      go : Dec (here ≤ there) → Degree K d (drop here w) (drop there w)
      go (yes l) = rw (min-eq_left l, max-eq_right l) at f
      go (no n) =
          let l : there ≤ here = omega arith in
          degree_sym (rw (min-eq_right l, max-eq_left l) at f)

  pub degree_unique : {K d e : ℕ} {u v : List A} → Degree K d u v → Degree K e u v → d ≡ e
  degree_unique {K} {d} {e} {u} {v} f g = go (dec_lt d e) (dec_lt e d)
    where
      go : Dec (d < e) → Dec (e < d) → d ≡ e
      go (yes l) h = let b : d < d = (f.1 d (omega arith)).0 ((g.1 d (omega arith)).1 l) in absurd (omega arith)
      go (no n) (yes l) = let b : e < e = (g.1 e (omega arith)).0 ((f.1 e (omega arith)).1 l) in absurd (omega arith)
      go (no n) (no m) = omega arith

  -- Of words each a subsequence of the one before, the degrees over two stretches that meet or overlap give that over both.
  pub degree_join : {K d e : ℕ} {u v w z : List A} → Sub z w → Sub w v → Sub v u → Degree K d u w → Degree K e v z
      → Degree K (min d e) u z
  degree_join {K} {d} {e} {u} {v} {w} {z} zw wv vu f g = (omega arith, λ k l. (apart k l, together k l))
    where
      apart : (k : ℕ) → k < K → Congruent k u z → k < min d e
      apart k l (c, _) =
          let p : k < d = (f.1 k l).0 (within_trans c (within_sub k zw), within_sub k (sub_trans wv vu)) in
          let q : k < e = (g.1 k l).0 (within_trans (within_sub k vu) c, within_sub k (sub_trans zw wv)) in
          omega arith

      together : (k : ℕ) → k < K → k < min d e → Congruent k u z
      together k l h = (
        within_trans ((f.1 k l).1 (omega arith)).0 (within_trans (within_sub k wv) ((g.1 k l).1 (omega arith)).0),
        within_sub k (sub_trans zw (sub_trans wv vu)),
      )

-- the least of some numbers, or `K` if that is less
abbrev pub least : ℕ → List ℕ → ℕ
least K [] = K
least K (n ∷ ns) = min n (least K ns)

-- Over letters whose equality is decided.
module _ {A : Type 0} (eq : (x y : A) → Dec (x ≡ y)) where
  -- ── Unequal words ──

  -- Unequal words have a telling row of at most one letter more than the shorter has: the shorter word, or if that lies in
  -- the longer, any so many letters of the longer.
  pub telling_short : (u v : List A) → ¬ (u ≡ v) → (z : List A) × Telling z u v × (length z ≤ suc (min (length u) (length v)))
  telling_short u v n = go (dec_le (length u) (length v))
    where
      Short : List A → List A → Type 0
      Short u v = (z : List A) × Telling z u v × (length z ≤ suc (length u))

      short : (u v : List A) → length u ≤ length v → ¬ (u ≡ v) → Short u v
      short u v l n = of (sub? eq u v)
        where
          of : Dec (Sub u v) → Short u v
          of (no m) = (u, inl (sub_refl u, m), omega arith)
          of (yes s) =
              let k = suc (length u) in
              let e = length-take k v in
              let long : length u < length v = above (dec_lt (length u) (length v)) in
              (take k v, inr (sub_take k v, λ i. omega (arith, sub_length i)), omega arith)
            where
              above : Dec (length u < length v) → length u < length v
              above (yes h) = h
              above (no h) = absurd (n (sub_whole s (omega arith)))

      go : Dec (length u ≤ length v) → (z : List A) × Telling z u v × (length z ≤ suc (min (length u) (length v)))
      go (yes l) = let (z, t, b) = short u v l n in (z, t, omega arith)
      go (no l) = let (z, t, b) = short v u (omega arith) (λ e. n (sym e)) in (z, ⊎_elim inr inl t, omega arith)

  -- so a degree that reaches a cap above that says that the words are equal
  pub degree_cap : {K : ℕ} {u v : List A} → suc (min (length u) (length v)) < K → Degree K K u v → u ≡ v
  degree_cap {K} {u} {v} l d = go (List-discrete eq u v)
    where
      go : Dec (u ≡ v) → u ≡ v
      go (yes e) = e
      go (no n) =
          let (z, t, b) = telling_short u v n in
          absurd (congruent_telling (omega arith) ((d.1 (length z) (omega arith)).1 (omega arith)) t)

  -- ── End parts of one word ──

  -- the degree of a word and what follows its first letter is the coordinate of that letter
  pub degree_step : (K : ℕ) (a : A) (u : List A) → Degree K (min (right eq a u) K) (a ∷ u) u
  degree_step K a u = (
    omega arith,
    λ k l. (
      λ c. let h = (block eq k a u).0 (congruent_sym c) in omega arith,
      λ h. congruent_sym ((block eq k a u).1 (omega arith)),
    ),
  )

  -- A letter in front of the larger word takes the degree down to its coordinate.
  pub degree_cons : {K d : ℕ} {u w : List A} (a : A) → Sub w u → Degree K d u w → Degree K (min (right eq a u) d) (a ∷ u) w
  degree_cons {K} {d} {u} {w} a s f =
      let e : min (min (right eq a u) K) d ≡ min (right eq a u) d = omega arith in
      rw e at (degree_join s (sub_refl u) (skip (sub_refl u)) (degree_step K a u) f)

  -- So the degree of two end parts of one word is the least coordinate of the places between them, or the cap.
  pub degree_between : (K : ℕ) (p w : List A) → Degree K (least K (take (length p) (rights eq (p ++ w)))) (p ++ w) w
  degree_between K [] w = degree_refl K w
  degree_between K (a ∷ p) w = degree_cons a (sub_back p w) (degree_between K p w)

  -- ── Letter by letter ──

  pub follow_sym : {K d : ℕ} {x : A} {u v : List A} → Follow eq K x u v d → Follow eq K x v u d
  follow_sym (both p q f) = both q p (degree_sym f)
  follow_sym (first_only p q) = second_only q p
  follow_sym (second_only p q) = first_only q p
  follow_sym (neither p q) = neither q p

  pub follow_empty : (K : ℕ) (x : A) → Follow eq K x [] [] K
  follow_empty K x = neither not_sub_nil not_sub_nil

  -- A letter that is put in front of a word changes what that letter says, which is now about all of the old word,
  pub follow_both : {K d : ℕ} {a : A} {u v : List A} → Sub (a ∷ []) v → Degree K d u (after eq a v) → Follow eq K a (a ∷ u) v d
  follow_both {K} {d} {a} {u} {v} o f = both (occurs_at [] a u) o (rw (after_same eq u refl) f)

  pub follow_alone : {K : ℕ} {a : A} {u v : List A} → ¬ Sub (a ∷ []) v → Follow eq K a (a ∷ u) v 0
  follow_alone {a = a} {u = u} n = first_only (occurs_at [] a u) n

  -- and nothing else.
  pub follow_other : {K d : ℕ} {a x : A} {u v : List A} → ¬ (x ≡ a) → Follow eq K x u v d → Follow eq K x (a ∷ u) v d
  follow_other {u = u} n (both p q f) = both (skip p) q (rw (after_other eq u n) f)
  follow_other n (first_only p q) = first_only (skip p) q
  follow_other n (second_only p q) = second_only (λ i. p (strip_other n i)) q
  follow_other n (neither p q) = neither (λ i. p (strip_other n i)) q

  -- words of which all letters say `k` or more agree at `k`,
  pub letters_congruent : {k K : ℕ} {u v : List A} (T : A → ℕ) → k < K → ((x : A) → Follow eq K x u v (T x))
      → ((x : A) → k ≤ T x) → Congruent k u v
  letters_congruent {k} {K} T l f b = (within f, within (λ x. follow_sym (f x)))
    where
      within : {u v : List A} → ((x : A) → Follow eq K x u v (T x)) → Within k u v
      within {v = v} f [] h s = sub_empty v
      within {u} {v} f (x ∷ z) h s = go (f x) (b x)
        where
          go : {t : ℕ} → Follow eq K x u v t → k ≤ t → Sub (x ∷ z) v
          go (both p q d) m =
              let t = ((first_occurrence eq).0 s).1 in
              (first_occurrence eq).1 (q, ((d.1 (length z) (omega arith)).1 (omega arith)).0 z (omega arith) t)
          go (first_only p q) m = absurd (omega arith)
          go (second_only p q) m = absurd (p (occurs_head s))
          go (neither p q) m = absurd (p (occurs_head s))

  -- and words do not agree at a level above what some letter says
  pub letters_apart : {k d K : ℕ} {x : A} {u v : List A} → d < k → k < K → Follow eq K x u v d → ¬ Congruent k u v
  letters_apart {k} {d} {K} {x} {u} {v} h l f c = go f h (congruent_less (omega arith) c)
    where
      go : {d : ℕ} → Follow eq K x u v d → d < k → Congruent (suc d) u v → ⊥
      go {d} (both p q f) h c =
          let b : d < d = (f.1 d (omega arith)).0 (congruent_after eq x p c) in omega arith
      go (first_only p q) h c = q (within_occurs c.0 p)
      go (second_only p q) h c = p (within_occurs c.1 q)
      go (neither p q) h c = omega arith

  -- The degree is one more than the least of what the letters say, or the cap.
  pub degree_letters : {K m : ℕ} {u v : List A} (T : A → ℕ) → ((x : A) → Follow eq K x u v (T x)) → ((x : A) → m ≤ T x)
      → ((x : A) × (T x ≡ m)) ⊎ (K ≤ suc m) → Degree K (min K (suc m)) u v
  degree_letters {K} {m} {u} {v} T f b e = (omega arith, λ k l. (below k l e, above k l))
    where
      below : (k : ℕ) → k < K → ((x : A) × (T x ≡ m)) ⊎ (K ≤ suc m) → Congruent k u v → k < min K (suc m)
      below k l (inr h) c = omega arith
      below k l (inl (x, h)) c = go (dec_le k m)
        where
          go : Dec (k ≤ m) → k < min K (suc m)
          go (yes g) = omega arith
          go (no g) = absurd (letters_apart (omega arith) l (f x) c)

      above : (k : ℕ) → k < K → k < min K (suc m) → Congruent k u v
      above k l h = letters_congruent T l f (λ x. omega (arith, b x))
