-- Subsequences: the order that they make of the words, how a subsequence of a joined word is cut and where its letters land,
-- the first occurrence of a letter, and words that agree on all short subsequences.
use Rattle.std.proofs.Common.{◌≡◌, ℕ, suc, ◌+◌, ◌≤◌, ◌⊎◌, ◌↔◌, List, [], ◌∷◌, ◌++◌, reverse, length, take, drop, sym, refl, ap, ◌∙◌, subst, inl, inr, ⊎_elim, arith, length-append, take-append-drop}
use mathlib.Core.List.{reverse_aux, reverse-reverse}
use mathlib.Core.List.{head-eq_of_cons-eq, tail-eq_of_cons-eq}
use mathlib.Core.Logic.{ite}
unfoldable pub use Rattle.words.specs.Degrees.{after}
use Rattle.words.specs.Words.{Sub, done, skip, keep, Within, Congruent, Telling}

module _ {A : Type 0} where
  -- ── An order of the words ──

  pub sub_empty : (w : List A) → Sub [] w
  sub_empty [] = done
  sub_empty (a ∷ w) = skip (sub_empty w)

  pub sub_refl : (w : List A) → Sub w w
  sub_refl [] = done
  sub_refl (a ∷ w) = keep (sub_refl w)

  pub sub_trans : {u v w : List A} → Sub u v → Sub v w → Sub u w
  sub_trans h done = h
  sub_trans h (skip s) = skip (sub_trans h s)
  sub_trans (skip h) (keep s) = skip (sub_trans h s)
  sub_trans (keep {u = u} h) (keep s) = keep (sub_trans {u = u} h s)

  pub sub_length : {u w : List A} → Sub u w → length u ≤ length w
  sub_length done = omega arith
  sub_length (skip s) = let h = sub_length s in omega arith
  sub_length (keep s) = let h = sub_length s in omega arith

  -- a subsequence that leaves out no letter is the whole word
  pub sub_whole : {u w : List A} → Sub u w → length u ≡ length w → u ≡ w
  sub_whole done e = refl
  sub_whole (skip s) e = let h = sub_length s in absurd (omega arith)
  sub_whole (keep {a = a} s) e = ap (λ v. a ∷ v) (sub_whole s (omega arith))

  -- ── The ends of a subsequence ──

  pub sub_nil : {u : List A} → Sub u [] → u ≡ []
  sub_nil done = refl

  pub not_sub_nil : {b : A} {y : List A} → ¬ Sub (b ∷ y) []
  not_sub_nil s = elim s [ ]

  -- the first letter of the larger word is skipped or kept
  pub sub_uncons : {a : A} {u w : List A} → Sub u (a ∷ w) → Sub u w ⊎ ((v : List A) × (u ≡ a ∷ v) × Sub v w)
  sub_uncons (skip s) = inl s
  sub_uncons (keep {u = v} s) = inr (v, refl, s)

  -- the same where the smaller word has a first letter
  pub sub_split : {a b : A} {y q : List A} → Sub (b ∷ y) (a ∷ q) → Sub (b ∷ y) q ⊎ ((b ≡ a) × Sub y q)
  sub_split (skip s) = inl s
  sub_split (keep s) = inr (refl, s)

  pub sub_tail : {b : A} {y w : List A} → Sub (b ∷ y) w → Sub y w
  sub_tail {b} {y} s = sub_trans (skip {a = b} (sub_refl y)) s

  -- what is left of both words behind their first letters
  pub strip_heads : {a b : A} {y q : List A} → Sub (b ∷ y) (a ∷ q) → Sub y q
  strip_heads s = ⊎_elim sub_tail (λ h. h.1) (sub_split s)

  -- a head that begins only the larger word is stripped from it
  pub strip_other : {a b : A} {y q : List A} → ¬ (b ≡ a) → Sub (b ∷ y) (a ∷ q) → Sub (b ∷ y) q
  strip_other n s = ⊎_elim (λ h. h) (λ h. absurd (n h.0)) (sub_split s)

  pub keep_equal : {a b : A} {y q : List A} → b ≡ a → Sub y q → Sub (b ∷ y) (a ∷ q)
  keep_equal {a} {b} {y} {q} e s = subst (λ c. Sub (b ∷ y) (c ∷ q)) e (keep s)

  -- ── Joined words ──

  pub length_around : (x : List A) (a : A) (y : List A) → length (x ++ a ∷ y) ≡ suc (length x + length y)
  length_around x a y = omega (arith, length-append x (a ∷ y))

  pub length_end : (x : List A) (a : A) → length (x ++ a ∷ []) ≡ suc (length x)
  length_end x a = omega (arith, length_around x a [])

  pub sub_append : {u p v q : List A} → Sub u p → Sub v q → Sub (u ++ v) (p ++ q)
  sub_append done t = t
  sub_append (skip s) t = skip (sub_append s t)
  sub_append (keep s) t = keep (sub_append s t)

  pub sub_front : (p q : List A) → Sub p (p ++ q)
  sub_front [] q = sub_empty q
  sub_front (a ∷ p) q = keep (sub_front p q)

  pub sub_back : (p q : List A) → Sub q (p ++ q)
  sub_back [] q = sub_refl q
  sub_back (a ∷ p) q = skip (sub_back p q)

  pub sub_take : (n : ℕ) (w : List A) → Sub (take n w) w
  sub_take n w = rw take-append-drop at (sub_front (take n w) (drop n w))

  -- a subsequence of a joined word is cut into one of each part
  pub sub_cut : (p : List A) {q z : List A} → Sub z (p ++ q)
      → (x : List A) × (y : List A) × (z ≡ x ++ y) × Sub x p × Sub y q
  sub_cut [] {q} {z} s = ([], z, refl, done, s)
  sub_cut (a ∷ p) (skip s) = let (x, y, e, sx, sy) = sub_cut p s in (x, y, e, skip sx, sy)
  sub_cut (a ∷ p) (keep s) = let (x, y, e, sx, sy) = sub_cut p s in (a ∷ x, y, ap (λ v. a ∷ v) e, keep sx, sy)

  -- A letter of a subsequence of a joined word lands in the first part, with all before it, or in the second, with all
  -- behind it.
  pub landing : (x p : List A) {a : A} {y q : List A} → Sub (x ++ a ∷ y) (p ++ q) → Sub (x ++ a ∷ []) p ⊎ Sub (a ∷ y) q
  landing x [] {a} {y} s = inr (sub_trans (sub_back x (a ∷ y)) s)
  landing [] (c ∷ p) s =
      ⊎_elim (λ h. ⊎_elim (λ l. inl (skip l)) inr (landing [] p h)) (λ h. inl (keep_equal h.0 (sub_empty p))) (sub_split s)
  landing (d ∷ x) (c ∷ p) s =
      ⊎_elim (λ h. ⊎_elim (λ l. inl (skip l)) inr (landing (d ∷ x) p h))
      (λ h. ⊎_elim (λ l. inl (keep_equal h.0 l)) inr (landing x p h.1)) (sub_split s)

  -- what does not fit into `p` uses up the letter behind it
  pub overrun : (x p : List A) (b : A) {r q : List A} → Sub (x ++ r) (p ++ b ∷ q) → Sub x p ⊎ Sub r q
  overrun [] p b s = inl (sub_empty p)
  overrun (d ∷ x) [] b {r = r} s = inr (sub_trans (sub_back x r) (strip_heads s))
  overrun (d ∷ x) (c ∷ p) b s =
      ⊎_elim (λ h. ⊎_elim (λ l. inl (skip l)) inr (overrun (d ∷ x) p b h))
      (λ h. ⊎_elim (λ l. inl (keep_equal h.0 l)) inr (overrun x p b h.1)) (sub_split s)

  -- a subsequence of `p ++ a ∷ q` does without the `a`, or is cut at it
  pub cut_at : (p : List A) {a : A} {q z : List A} → Sub z (p ++ a ∷ q)
      → Sub z (p ++ q) ⊎ ((x : List A) × (y : List A) × (z ≡ x ++ a ∷ y) × Sub x p × Sub y q)
  cut_at p {a} {q} {z} s =
      let (x, r, e, sx, sr) = sub_cut p s in
      ⊎_elim (λ h. inl (rw e (sub_append sx h))) (λ h. inr (x, h.0, e ∙ ap (λ v. x ++ v) h.1, sx, h.2)) (sub_uncons sr)

  -- what ends in a letter that the end of a word lacks lies in the front
  pub strip_end : (x p : List A) {b : A} {r : List A} → ¬ Sub (b ∷ []) r → Sub (x ++ b ∷ []) (p ++ r) → Sub (x ++ b ∷ []) p
  strip_end x p n s = ⊎_elim (λ h. h) (λ h. absurd (n h)) (landing x p s)

  -- two cuts of one word, the first at a letter: the letter stands before the second cut, or behind it
  pub align : (s p : List A) {c : A} {t r : List A} → s ++ c ∷ t ≡ p ++ r
      → ((m : List A) × (p ≡ s ++ c ∷ m) × (t ≡ m ++ r)) ⊎ ((m : List A) × (s ≡ p ++ m) × (r ≡ m ++ c ∷ t))
  align s [] e = inr (s, refl, sym e)
  align [] (d ∷ p) e = inl (p, ap (λ b. b ∷ p) (sym (head-eq_of_cons-eq e)), tail-eq_of_cons-eq e)
  align (b ∷ s) (d ∷ p) e =
      let h = head-eq_of_cons-eq e in
      ⊎_elim (λ l. inl (l.0, cc (h, l.1), l.2)) (λ l. inr (l.0, cc (h, l.1), l.2)) (align s p (tail-eq_of_cons-eq e))

  -- ── Words read backwards ──

  sub_reverse_aux : {z w r s : List A} → Sub z w → Sub r s → Sub (reverse_aux z r) (reverse_aux w s)
  sub_reverse_aux done t = t
  sub_reverse_aux (skip h) t = sub_reverse_aux h (skip t)
  sub_reverse_aux (keep h) t = sub_reverse_aux h (keep t)

  pub sub_reverse : {z w : List A} → Sub z w → Sub (reverse z) (reverse w)
  sub_reverse h = sub_reverse_aux h done

  pub sub_unreverse : {z w : List A} → Sub (reverse z) (reverse w) → Sub z w
  sub_unreverse {z} {w} h = rw (← reverse-reverse z, ← reverse-reverse w) (sub_reverse h)

  -- ── Occurrences: the letter `a` occurs in `w` if `Sub (a ∷ []) w` ──

  pub occurs_head : {a : A} {y w : List A} → Sub (a ∷ y) w → Sub (a ∷ []) w
  occurs_head {a} {y} s = sub_trans (keep (sub_empty y)) s

  pub occurs_at : (p : List A) (a : A) (q : List A) → Sub (a ∷ []) (p ++ a ∷ q)
  occurs_at p a q = sub_trans (keep (sub_empty q)) (sub_back p (a ∷ q))

  pub occurs_cons : {a c : A} {w : List A} → Sub (a ∷ []) (c ∷ w) → (a ≡ c) ⊎ Sub (a ∷ []) w
  occurs_cons s = ⊎_elim inr (λ h. inl h.0) (sub_split s)

  pub occurs_append : (p : List A) {a : A} {q : List A} → Sub (a ∷ []) (p ++ q) → Sub (a ∷ []) p ⊎ Sub (a ∷ []) q
  occurs_append p s = landing [] p s

  -- no letter occurs twice
  pub data Distinct : List A → Type 0 where
    no_letter : Distinct []
    new_letter : {a : A} {u : List A} → ¬ Sub (a ∷ []) u → Distinct u → Distinct (a ∷ u)

  -- ── Words that agree on short subsequences ──

  -- a subsequence of a word has no more short subsequences than the word
  pub within_sub : {u v : List A} (k : ℕ) → Sub u v → Within k u v
  within_sub k h z l s = sub_trans s h

  pub within_trans : {k : ℕ} {u v w : List A} → Within k u v → Within k v w → Within k u w
  within_trans f g z l s = g z l (f z l s)

  pub within_less : {j k : ℕ} {u v : List A} → j ≤ k → Within k u v → Within j u v
  within_less h f z l s = f z (omega arith) s

  -- words that agree on anything but the empty word have the same letters
  pub within_occurs : {k : ℕ} {x : A} {u v : List A} → Within (suc k) u v → Sub (x ∷ []) u → Sub (x ∷ []) v
  within_occurs {x = x} f o = f (x ∷ []) (omega arith) o

  pub within_cons : {k : ℕ} {u v : List A} (a : A) → Within k u v → Within k (a ∷ u) (a ∷ v)
  within_cons a f z l s =
      ⊎_elim (λ t. skip (f z l t))
      (λ h. rw h.1 (keep (f h.0 (omega (arith, ap length h.1)) h.2))) (sub_uncons s)

  pub congruent_zero : (u v : List A) → Congruent 0 u v
  congruent_zero u v = (within_zero u v, within_zero v u)
    where
      within_zero : (u v : List A) → Within 0 u v
      within_zero u v [] l s = sub_empty v
      within_zero u v (a ∷ z) l s = absurd (omega arith)

  pub congruent_refl : (k : ℕ) (w : List A) → Congruent k w w
  congruent_refl k w = (within_sub k (sub_refl w), within_sub k (sub_refl w))

  pub congruent_sym : {k : ℕ} {u v : List A} → Congruent k u v → Congruent k v u
  congruent_sym c = (c.1, c.0)

  pub congruent_trans : {k : ℕ} {u v w : List A} → Congruent k u v → Congruent k v w → Congruent k u w
  congruent_trans c d = (within_trans c.0 d.0, within_trans d.1 c.1)

  pub congruent_less : {j k : ℕ} {u v : List A} → j ≤ k → Congruent k u v → Congruent j u v
  congruent_less h c = (within_less h c.0, within_less h c.1)

  pub congruent_cons : {k : ℕ} {u v : List A} (a : A) → Congruent k u v → Congruent k (a ∷ u) (a ∷ v)
  congruent_cons a c = (within_cons a c.0, within_cons a c.1)

  -- words that agree on all words of so many letters have no telling row among them
  pub congruent_telling : {k : ℕ} {z s t : List A} → length z ≤ k → Congruent k s t → ¬ Telling z s t
  congruent_telling {z = z} l c (inl (i, n)) = n (c.0 z l i)
  congruent_telling {z = z} l c (inr (i, n)) = n (c.1 z l i)

-- Over letters whose equality is decided.
module _ {A : Type 0} (eq : (x y : A) → Dec (x ≡ y)) where
  -- whether a word is a subsequence is decided
  pub sub? : (u w : List A) → Dec (Sub u w)
  sub? [] w = yes (sub_empty w)
  sub? (b ∷ y) [] = no not_sub_nil
  sub? (b ∷ y) (a ∷ q) = go (eq b a) (sub? y q) (sub? (b ∷ y) q)
    where
      go : Dec (b ≡ a) → Dec (Sub y q) → Dec (Sub (b ∷ y) q) → Dec (Sub (b ∷ y) (a ∷ q))
      go (yes e) (yes s) t = yes (keep_equal e s)
      go (yes e) (no n) t = no (λ s. n (strip_heads s))
      go (no n) s (yes t) = yes (skip t)
      go (no n) s (no m) = no (λ t. m (strip_other n t))

  -- a subsequence of `a ∷ w` is one of `w`, or it is not and begins with that `a`
  pub sub_new : {a : A} {u w : List A} → Sub u (a ∷ w)
      → Sub u w ⊎ ((v : List A) × (u ≡ a ∷ v) × Sub v w × (¬ Sub (a ∷ v) w))
  sub_new {a} {u} {w} s = go (sub? u w)
    where
      go : Dec (Sub u w) → Sub u w ⊎ ((v : List A) × (u ≡ a ∷ v) × Sub v w × (¬ Sub (a ∷ v) w))
      go (yes t) = inl t
      go (no n) = ⊎_elim inl (λ k. inr (k.0, k.1, k.2, λ i. n (rw k.1 i))) (sub_uncons s)

  pub after_same : {a c : A} (w : List A) → a ≡ c → after eq a (c ∷ w) ≡ w
  unfolding after
  after_same {a} {c} w e = go (eq a c)
    where
      go : (d : Dec (a ≡ c)) → ite d w (after eq a w) ≡ w
      go (yes _) = refl
      go (no n) = absurd (n e)

  pub after_other : {a c : A} (w : List A) → ¬ (a ≡ c) → after eq a (c ∷ w) ≡ after eq a w
  unfolding after
  after_other {a} {c} w n = go (eq a c)
    where
      go : (d : Dec (a ≡ c)) → ite d w (after eq a w) ≡ after eq a w
      go (yes e) = absurd (n e)
      go (no _) = refl

  pub after_sub : (a : A) (w : List A) → Sub (after eq a w) w
  unfolding after
  after_sub a [] = done
  after_sub a (c ∷ w) = go (eq a c) (after_sub a w)
    where
      go : (d : Dec (a ≡ c)) → Sub (after eq a w) w → Sub (ite d w (after eq a w)) (c ∷ w)
      go (yes _) s = skip (sub_refl w)
      go (no _) s = skip s

  -- `x ∷ z` lies in `w` exactly if `x` occurs in `w` and `z` lies behind the first `x`.
  pub first_occurrence : {x : A} {z w : List A} → Sub (x ∷ z) w ↔ (Sub (x ∷ []) w × Sub z (after eq x w))
  first_occurrence {x} {z} {w} = (λ s. (occurs_head s, behind w s), λ h. joined w h.0 h.1)
    where
      behind : (w : List A) → Sub (x ∷ z) w → Sub z (after eq x w)
      behind [] s = absurd (not_sub_nil s)
      behind (c ∷ w) s = go (eq x c) (behind w)
        where
          go : Dec (x ≡ c) → (Sub (x ∷ z) w → Sub z (after eq x w)) → Sub z (after eq x (c ∷ w))
          go (yes e) f = rw (after_same w e) (strip_heads s)
          go (no n) f = rw (after_other w n) (f (strip_other n s))

      joined : (w : List A) → Sub (x ∷ []) w → Sub z (after eq x w) → Sub (x ∷ z) w
      joined [] o s = absurd (not_sub_nil o)
      joined (c ∷ w) o s = go (eq x c) (joined w)
        where
          go : Dec (x ≡ c) → (Sub (x ∷ []) w → Sub z (after eq x w) → Sub (x ∷ z) w) → Sub (x ∷ z) (c ∷ w)
          go (yes e) f = keep_equal e (rw (after_same w e) at s)
          go (no n) f = skip (f (strip_other n o) (rw (after_other w n) at s))

  -- a word is cut at the first occurrence of a letter
  pub first_cut : {x : A} {w : List A} → Sub (x ∷ []) w
      → (u : List A) × (w ≡ u ++ x ∷ after eq x w) × (¬ Sub (x ∷ []) u)
  first_cut {x} {w} o = at w o
    where
      Cut : List A → Type 0
      Cut w = (u : List A) × (w ≡ u ++ x ∷ after eq x w) × (¬ Sub (x ∷ []) u)

      at : (w : List A) → Sub (x ∷ []) w → Cut w
      at [] o = absurd (not_sub_nil o)
      at (c ∷ w) o = go (eq x c) (at w)
        where
          go : Dec (x ≡ c) → (Sub (x ∷ []) w → Cut w) → Cut (c ∷ w)
          go (yes e) f = ([], cc (e, after_same w e), not_sub_nil)
          go (no n) f =
              let (u, e, none) = f (strip_other n o) in
              (c ∷ u, cc (e, after_other w n), λ i. none (strip_other n i))

  -- the first occurrence is the one with none before it
  pub after_first : {x : A} (u : List A) → ¬ Sub (x ∷ []) u → (t : List A) → after eq x (u ++ x ∷ t) ≡ t
  after_first [] none t = after_same t refl
  after_first {x} (c ∷ u) none t =
      after_other (u ++ x ∷ t) (λ e. none (keep_equal e (sub_empty u))) ∙ after_first u (λ o. none (skip o)) t

  -- words that agree on short subsequences do so, with one letter less, behind the first `x`
  pub within_after : {k : ℕ} {u v : List A} (x : A) → Sub (x ∷ []) u → Within (suc k) u v → Within k (after eq x u) (after eq x v)
  within_after x o f z l s = (first_occurrence.0 (f (x ∷ z) (omega arith) (first_occurrence.1 (o, s)))).1

  pub congruent_after : {k : ℕ} {u v : List A} (x : A) → Sub (x ∷ []) u → Congruent (suc k) u v
      → Congruent k (after eq x u) (after eq x v)
  congruent_after x o c = (within_after x o c.0, within_after x (within_occurs c.0 o) c.1)

  -- a word without repetition is no longer than a word with all its letters
  pub distinct_length : {u w : List A} → Distinct u → ((x : A) → Sub (x ∷ []) u → Sub (x ∷ []) w) → length u ≤ length w
  distinct_length no_letter f = omega arith
  distinct_length {w = w} (new_letter {a = a} {u = u} n d) f =
      go (first_cut (f a (keep (sub_empty u)))) (λ v g. distinct_length {w = v} d g)
    where
      go : (p : List A) × (w ≡ p ++ a ∷ after eq a w) × (¬ Sub (a ∷ []) p)
          → ((v : List A) → ((x : A) → Sub (x ∷ []) u → Sub (x ∷ []) v) → length u ≤ length v) → suc (length u) ≤ length w
      go (p, e, m) shorter =
          let q = after eq a w in
          omega (arith, ap length e, length_around p a q, length-append p q, shorter (p ++ q) others)
        where
          others : (x : A) → Sub (x ∷ []) u → Sub (x ∷ []) (p ++ after eq a w)
          others x o =
              let i : Sub (x ∷ []) (p ++ a ∷ after eq a w) = rw e at (f x (skip o)) in
              ⊎_elim (λ h. sub_trans h (sub_front p (after eq a w)))
              (λ h. ⊎_elim (λ c. absurd (n (rw (← c) o))) (λ j. sub_trans j (sub_back p (after eq a w))) (occurs_cons h))
              (occurs_append p i)
