-- Partners: how the places of two words are set against each other. Read from right to left, the coordinates of a word are
-- the depths of the nodes of a tree in preorder, and partners are nodes that are reached by the same steps in both trees.
-- Words that agree at a level have partners at the ends of their first blocks there. So an end part that agrees, at its
-- coordinate or above, with any end part of another word agrees with its partner; and it has at most one.
use Rattle.std.proofs.Common.{◌≡◌, ℕ, zero, suc, ◌<◌, ◌≤◌, ◌⊎◌, ◌↔◌, List, [], ◌∷◌, length, sym, refl, ap, ◌∙◌, inl, inr, arith}
use native.Mathlib.Decide.{dec_le, dec_lt}
use mathlib.Core.Logic.{ite}
unfoldable pub use Rattle.words.specs.Places.{stop}
pub use Rattle.words.specs.Places.{Partner, last, next}
use Rattle.words.specs.Words.{Sub, keep, skip, Congruent}
use Rattle.words.proofs.Subsequences.{sub_empty, not_sub_nil, strip_other, Distinct, no_letter, new_letter, distinct_length}
use Rattle.words.proofs.Subsequences.{congruent_refl, congruent_sym, congruent_trans, congruent_less, congruent_cons}
use Rattle.words.proofs.EndParts.{Tail, whole, rest, tail_trans, tail_behind, tail_length, tail_shorter, tail_whole}
use Rattle.words.proofs.Coordinates.{right, right_none, right_same, right_other, right_positive, block}

-- where a depth `n` is, seen from a place of depth `m`: no deeper, right below, or below that
data Level (m n : ℕ) : Type 0 where
  low : n ≤ m → Level m n
  kid : n ≡ suc m → Level m n
  deep : suc m < n → Level m n

level : (m n : ℕ) → Level m n
level m n = go (dec_le n m) (dec_le n (suc m))
  where
    go : Dec (n ≤ m) → Dec (n ≤ suc m) → Level m n
    go (yes l) h = low l
    go (no l) (yes h) = kid (omega arith)
    go (no l) (no h) = deep (omega arith)

module _ {A : Type 0} (eq : (x y : A) → Dec (x ≡ y)) where
  -- ── Stops ──

  pub stop_none : (k : ℕ) → stop eq k [] ≡ []
  unfolding stop
  stop_none k = refl

  pub stop_here : {k : ℕ} (a : A) (u : List A) → right eq a u ≤ k → stop eq k (a ∷ u) ≡ a ∷ u
  unfolding stop
  stop_here {k} a u l = go (dec_le (right eq a u) k)
    where
      go : (d : Dec (right eq a u ≤ k)) → ite d (a ∷ u) (stop eq k u) ≡ a ∷ u
      go (yes _) = refl
      go (no n) = absurd (n l)

  pub stop_past : {k : ℕ} (a : A) (u : List A) → ¬ (right eq a u ≤ k) → stop eq k (a ∷ u) ≡ stop eq k u
  unfolding stop
  stop_past {k} a u n = go (dec_le (right eq a u) k)
    where
      go : (d : Dec (right eq a u ≤ k)) → ite d (a ∷ u) (stop eq k u) ≡ stop eq k u
      go (yes l) = absurd (n l)
      go (no _) = refl

  pub stop_zero : (u : List A) → stop eq 0 u ≡ []
  stop_zero [] = stop_none 0
  stop_zero (a ∷ u) = stop_past {k = 0} a u (λ h. omega (arith, right_positive eq a u)) ∙ stop_zero u

  pub stop_tail : (k : ℕ) (u : List A) → Tail (stop eq k u) u
  stop_tail k [] = rw (stop_none k) whole
  stop_tail k (a ∷ u) = go (dec_le (right eq a u) k) (stop_tail k u)
    where
      go : Dec (right eq a u ≤ k) → Tail (stop eq k u) u → Tail (stop eq k (a ∷ u)) (a ∷ u)
      go (yes l) h = rw (stop_here a u l) whole
      go (no n) h = rw (stop_past a u n) (rest h)

  -- a word agrees at `k` with its stop at `k`
  pub congruent_stop : (k : ℕ) (u : List A) → Congruent k u (stop eq k u)
  congruent_stop k [] = rw (stop_none k) (congruent_refl k [])
  congruent_stop k (a ∷ u) = go (dec_le (right eq a u) k) (congruent_stop k u)
    where
      go : Dec (right eq a u ≤ k) → Congruent k u (stop eq k u) → Congruent k (a ∷ u) (stop eq k (a ∷ u))
      go (yes l) h = rw (stop_here a u l) (congruent_refl k (a ∷ u))
      go (no n) h =
          rw (stop_past a u n) (congruent_trans (congruent_sym ((block eq k a u).1 (omega arith))) h)

  -- no end part before the stop has a coordinate of at most `k`
  pub stop_reach : {k : ℕ} {b : A} {w u : List A} → right eq b w ≤ k → Tail (b ∷ w) u → Tail (b ∷ w) (stop eq k u)
  stop_reach {b = b} {w = w} l whole = rw (stop_here b w l) whole
  stop_reach {k} {b} {w} l (rest {a = a} {t = t} h) = go (dec_le (right eq a t) k) (stop_reach l h)
    where
      go : Dec (right eq a t ≤ k) → Tail (b ∷ w) (stop eq k t) → Tail (b ∷ w) (stop eq k (a ∷ t))
      go (yes m) r = rw (stop_here a t m) (rest h)
      go (no n) r = rw (stop_past a t n) r

  -- stops move to the right with the end part,
  pub stop_mono : {x u : List A} (k : ℕ) → Tail x u → Tail (stop eq k x) (stop eq k u)
  stop_mono k whole = whole
  stop_mono {x} k (rest {a = a} {t = t} h) = go (dec_le (right eq a t) k) (stop_mono k h)
    where
      go : Dec (right eq a t ≤ k) → Tail (stop eq k x) (stop eq k t) → Tail (stop eq k x) (stop eq k (a ∷ t))
      go (yes l) r = rw (stop_here a t l) (rest (tail_trans (stop_tail k x) h))
      go (no n) r = rw (stop_past a t n) r

  -- and the stop at a lower level is met from the stop at a higher one
  pub stop_stop : {j k : ℕ} → j ≤ k → (u : List A) → stop eq j (stop eq k u) ≡ stop eq j u
  stop_stop {j} {k} l [] = ap (stop eq j) (stop_none k)
  stop_stop {j} {k} l (a ∷ u) = go (dec_le (right eq a u) k) (stop_stop l u)
    where
      go : Dec (right eq a u ≤ k) → stop eq j (stop eq k u) ≡ stop eq j u → stop eq j (stop eq k (a ∷ u)) ≡ stop eq j (a ∷ u)
      go (yes h) e = ap (stop eq j) (stop_here a u h)
      go (no n) e = cc (stop_past a u n, stop_past {k = j} a u (λ h. n (omega arith)))

  -- ── Kids ──

  -- the letters of depth `m + 1` before the first place of depth at most `m`: the nodes right below that place in the tree
  unfoldable pub kids : ℕ → List A → List A
  kids m [] = []
  kids m (a ∷ u) = ite (dec_le (right eq a u) m) [] (ite (dec_le (right eq a u) (suc m)) (a ∷ kids m u) (kids m u))

  pub kids_none : (m : ℕ) → kids m [] ≡ []
  unfolding kids
  kids_none m = refl

  kids_low : {m : ℕ} (a : A) (u : List A) → right eq a u ≤ m → kids m (a ∷ u) ≡ []
  unfolding kids
  kids_low {m} a u l = go (dec_le (right eq a u) m)
    where
      go : (d : Dec (right eq a u ≤ m)) → ite d [] (ite (dec_le (right eq a u) (suc m)) (a ∷ kids m u) (kids m u)) ≡ []
      go (yes _) = refl
      go (no n) = absurd (n l)

  kids_one : {m : ℕ} (a : A) (u : List A) → right eq a u ≡ suc m → kids m (a ∷ u) ≡ a ∷ kids m u
  unfolding kids
  kids_one {m} a u e = go (dec_le (right eq a u) m) (dec_le (right eq a u) (suc m))
    where
      go : (d : Dec (right eq a u ≤ m)) (f : Dec (right eq a u ≤ suc m))
          → ite d [] (ite f (a ∷ kids m u) (kids m u)) ≡ a ∷ kids m u
      go (yes l) f = absurd (omega arith)
      go (no n) (yes _) = refl
      go (no n) (no k) = absurd (omega arith)

  kids_deep : {m : ℕ} (a : A) (u : List A) → suc m < right eq a u → kids m (a ∷ u) ≡ kids m u
  unfolding kids
  kids_deep {m} a u l = go (dec_le (right eq a u) m) (dec_le (right eq a u) (suc m))
    where
      go : (d : Dec (right eq a u ≤ m)) (f : Dec (right eq a u ≤ suc m))
          → ite d [] (ite f (a ∷ kids m u) (kids m u)) ≡ kids m u
      go (yes h) f = absurd (omega arith)
      go (no n) (yes k) = absurd (omega arith)
      go (no n) (no _) = refl

  -- The kids are just the letters that would have a coordinate above `m + 1` in front of the word.
  pub kids_are : (m : ℕ) (x : A) (u : List A) → Sub (x ∷ []) (kids m u) ↔ (suc m < right eq x u)
  kids_are m x [] = rw (kids_none m, right_none eq x) (λ s. absurd (not_sub_nil s), λ l. absurd (omega arith))
  kids_are m x (a ∷ u) = go (eq x a) (level m (right eq a u)) (kids_are m x u)
    where
      go : Dec (x ≡ a) → Level m (right eq a u) → Sub (x ∷ []) (kids m u) ↔ (suc m < right eq x u)
          → Sub (x ∷ []) (kids m (a ∷ u)) ↔ (suc m < right eq x (a ∷ u))
      go (yes e) (low l) h =
          rw (kids_low a u l, right_same eq u e, e) (λ s. absurd (not_sub_nil s), λ k. absurd (omega arith))
      go (yes e) (kid l) h = rw (kids_one a u l, right_same eq u e, e) (λ s. omega arith, λ k. keep (sub_empty (kids m u)))
      go (yes e) (deep l) h = rw (kids_deep a u l, right_same eq u e) (λ s. omega arith, λ k. h.1 (rw (← e) at l))
      go (no n) (low l) h =
          rw (kids_low a u l, right_other eq u n) (λ s. absurd (not_sub_nil s), λ k. absurd (omega arith))
      go (no n) (kid l) h =
          rw (kids_one a u l, right_other eq u n)
          (λ s. let k = h.0 (strip_other n s) in omega arith, λ k. skip (h.1 (omega arith)))
      go (no n) (deep l) h =
          rw (kids_deep a u l, right_other eq u n) (λ s. let k = h.0 s in omega arith, λ k. h.1 (omega arith))

  pub kids_distinct : (m : ℕ) (u : List A) → Distinct (kids m u)
  kids_distinct m [] = rw (kids_none m) no_letter
  kids_distinct m (a ∷ u) = go (level m (right eq a u)) (kids_distinct m u)
    where
      go : Level m (right eq a u) → Distinct (kids m u) → Distinct (kids m (a ∷ u))
      go (low l) h = rw (kids_low a u l) no_letter
      go (kid l) h =
          let fresh : ¬ Sub (a ∷ []) (kids m u) = λ s. omega (arith, (kids_are m a u).0 s) in
          rw (kids_one a u l) (new_letter fresh h)
      go (deep l) h = rw (kids_deep a u l) h

  -- Words that agree at `m + 1` have equally many kids at `m`: the same letters, though in another order.
  pub index_same : {m : ℕ} {u w : List A} → Congruent (suc m) u w → length (kids m u) ≡ length (kids m w)
  index_same {m} {u} {w} c =
      omega (
        arith,
        distinct_length eq (kids_distinct m u) (λ x. same x c),
        distinct_length eq (kids_distinct m w) (λ x. same x (congruent_sym c)),
      )
    where
      same : {u w : List A} (x : A) → Congruent (suc m) u w → Sub (x ∷ []) (kids m u) → Sub (x ∷ []) (kids m w)
      same {u} {w} x c s =
          let h = (block eq (suc m) x u).1 ((kids_are m x u).0 s) in
          (kids_are m x w).1 ((block eq (suc m) x w).0
          (congruent_trans (congruent_sym c) (congruent_trans h (congruent_cons x c))))

  -- how a word meets its kids: there is none before the stop, or the first is where the stop one level deeper is
  abbrev FirstKid : ℕ → List A → Type 0
  FirstKid m u =
      ((kids m u ≡ []) × (stop eq (suc m) u ≡ stop eq m u))
      ⊎ ((a : A) × (r : List A) × (right eq a r ≡ suc m) × (stop eq (suc m) u ≡ a ∷ r) × (kids m u ≡ a ∷ kids m r)
      × (stop eq m u ≡ stop eq m r))

  first_kid : (m : ℕ) (u : List A) → FirstKid m u
  first_kid m [] = inl (kids_none m, cc (stop_none (suc m), stop_none m))
  first_kid m (a ∷ u) = go (level m (right eq a u)) (first_kid m u)
    where
      go : Level m (right eq a u) → FirstKid m u → FirstKid m (a ∷ u)
      go (low l) h = inl (kids_low a u l, cc (stop_here a u l, stop_here {k = suc m} a u (omega arith)))
      go (kid e) h =
          inr (a, u, e, stop_here {k = suc m} a u (omega arith), kids_one a u e, stop_past {k = m} a u (λ l. omega arith))
      go (deep l) h =
          rw (kids_deep a u l, stop_past {k = suc m} a u (λ h. omega arith), stop_past {k = m} a u (λ h. omega arith)) h

  -- ── Partners ──

  -- the stops of partners are partners
  pub partner_stop : {u w : List A} (k : ℕ) → Partner eq u w → Partner eq (stop eq k u) (stop eq k w)
  partner_stop k last = rw (stop_none k) last
  partner_stop k (next {a = a} {b = b} {u = u} {w = w} e p) = go (dec_le (right eq a u) k) (partner_stop k p)
    where
      go : Dec (right eq a u ≤ k) → Partner eq (stop eq k (stop eq (right eq a u) u)) (stop eq k (stop eq (right eq b w) w))
          → Partner eq (stop eq k (a ∷ u)) (stop eq k (b ∷ w))
      go (yes l) q =
          let m : right eq b w ≤ k = omega arith in rw (stop_here a u l, stop_here b w m) (next e p)
      go (no n) q =
          let l : k ≤ right eq a u = omega arith in
          let m : k ≤ right eq b w = omega arith in
          rw (stop_past a u n, stop_past {k = k} b w (λ h. n (omega arith))) (rw (stop_stop l u, stop_stop m w) at q)

  -- with equally many kids, stops that are partners have partners one level deeper
  pub siblings : (m : ℕ) (u w : List A) → length (kids m u) ≡ length (kids m w) → Partner eq (stop eq m u) (stop eq m w)
      → Partner eq (stop eq (suc m) u) (stop eq (suc m) w)
  siblings m u w e p = at (length (kids m u)) u w refl (sym e) p
    where
      at : (n : ℕ) (u w : List A) → length (kids m u) ≡ n → length (kids m w) ≡ n → Partner eq (stop eq m u) (stop eq m w)
          → Partner eq (stop eq (suc m) u) (stop eq (suc m) w)
      at zero u w e f p = go (first_kid m u) (first_kid m w)
        where
          go : FirstKid m u → FirstKid m w → Partner eq (stop eq (suc m) u) (stop eq (suc m) w)
          go (inl (i, s)) (inl (j, t)) = rw (s, t) p
          go (inl _) (inr (b, v, d, t, j, h)) = absurd (omega (arith, ap length j))
          go (inr (a, r, c, s, i, g)) k = absurd (omega (arith, ap length i))
      at (suc n) u w e f p = go (first_kid m u) (first_kid m w) (at n)
        where
          go : FirstKid m u → FirstKid m w
              → ((r v : List A) → length (kids m r) ≡ n → length (kids m v) ≡ n → Partner eq (stop eq m r) (stop eq m v)
              → Partner eq (stop eq (suc m) r) (stop eq (suc m) v))
              → Partner eq (stop eq (suc m) u) (stop eq (suc m) w)
          go (inl (i, s)) k fewer = absurd (omega (arith, ap length i))
          go (inr _) (inl (j, t)) fewer = absurd (omega (arith, ap length j))
          go (inr (a, r, c, s, i, g)) (inr (b, v, d, t, j, h)) fewer =
              let q = fewer r v (omega (arith, ap length i)) (omega (arith, ap length j)) (rw (g, h) at p) in
              rw (s, t) (next (c ∙ sym d) (rw (c, d) q))

  -- Words that agree at `k` have partners at their stops at `k`.
  pub partners : {k : ℕ} {u w : List A} → Congruent k u w → Partner eq (stop eq k u) (stop eq k w)
  partners {k = zero} {u} {w} c = rw (stop_zero u, stop_zero w) last
  partners {k = suc m} {u} {w} c =
      siblings m u w (index_same c) (partners {k = m} (congruent_less (omega arith) c))

  -- So a place that agrees, at its coordinate or above, with an end part of a word has a partner there that agrees with it.
  pub partner_there : {k : ℕ} {a : A} {u x t : List A} → right eq a u ≤ k → Tail x t → Congruent k (a ∷ u) x
      → (w : List A) × Tail w t × Partner eq (a ∷ u) w × Congruent k (a ∷ u) w
  partner_there {k} {a} {u} {x} l h c = (
    stop eq k x,
    tail_trans (stop_tail k x) h,
    rw (stop_here a u l) at (partners c),
    congruent_trans c (congruent_stop k x),
  )

  -- two places of one word with the same coordinate and the same place above are one
  same_place : {b c : A} {w r t : List A} → Tail (b ∷ w) t → Tail (c ∷ r) t → right eq b w ≡ right eq c r
      → stop eq (right eq b w) w ≡ stop eq (right eq c r) r → b ∷ w ≡ c ∷ r
  same_place {b} {c} {w} {r} h k e s = compare (dec_le (length w) (length r))
    where
      one : {b c : A} {w r : List A} → Tail (b ∷ w) (c ∷ r) → right eq b w ≡ right eq c r
          → stop eq (right eq b w) w ≡ stop eq (right eq c r) r → b ∷ w ≡ c ∷ r
      one whole e s = refl
      one {b} {c} {w} {r} (rest h) e s =
          let m : right eq b w ≤ right eq c r = omega arith in
          absurd (omega (arith, ap length s, tail_length (stop_reach m h), tail_length (stop_tail (right eq b w) w)))

      compare : Dec (length w ≤ length r) → b ∷ w ≡ c ∷ r
      compare (yes l) = one (tail_shorter h k (omega arith)) e s
      compare (no n) = sym (one (tail_shorter k h (omega arith)) (sym e) (sym s))

  -- An end part has at most one partner in a word,
  pub partner_one : {u v w t : List A} → Tail v t → Tail w t → Partner eq u v → Partner eq u w → v ≡ w
  partner_one h k last last = refl
  partner_one {t = t} h k (next {b = b} {u = u} {w = v} e p) (next {b = c} {w = w} f q) =
      let i = tail_trans (stop_tail (right eq b v) v) (tail_behind h) in
      let j = tail_trans (stop_tail (right eq c w) w) (tail_behind k) in
      same_place h k (sym e ∙ f) (partner_one {t = t} i j p q)

  -- and the partner of a longer end part is longer.
  pub partner_mono : {x y v w t : List A} → Tail x y → length x < length y → Partner eq x v → Partner eq y w → Tail v t → Tail w t
      → length v < length w
  partner_mono h l p last i j = absurd (omega arith)
  partner_mono {x = x} {v = v} {t = t} h l p (next {a = a} {b = b} {u = u} {w = w} e q) i j =
      go (dec_lt (length v) (suc (length w)))
      (λ g. partner_mono {x = stop eq k x} {v = stop eq k v} {t = t} inner g (partner_stop k p) q outer above)
    where
      k : ℕ
      k = right eq a u

      W : List A
      W = stop eq (right eq b w) w

      inner : Tail (stop eq k x) (stop eq k u)
      inner = stop_mono k (tail_shorter h (rest whole) (omega arith))

      outer : Tail (stop eq k v) t
      outer = tail_trans (stop_tail k v) i

      above : Tail W t
      above = tail_trans (stop_tail (right eq b w) w) (tail_behind j)

      go : Dec (length v < suc (length w)) → (length (stop eq k x) < length (stop eq k u) → length (stop eq k v) < length W)
          → length v < suc (length w)
      go (yes g) f = g
      go (no n) f =
          let m : right eq b w ≤ k = omega arith in
          let reach = tail_length (stop_reach m (tail_shorter j i (omega arith))) in
          absurd (omega (arith, short (dec_lt (length (stop eq k x)) (length (stop eq k u))), tail_length (stop_tail (right eq b w) w)))
        where
          short : Dec (length (stop eq k x) < length (stop eq k u)) → length (stop eq k v) ≤ length W
          short (yes g) = let s = f g in omega arith
          short (no m) =
              let r = rw (tail_whole inner (omega arith)) at (partner_stop k p) in
              omega (arith, ap length (partner_one outer above r q))
