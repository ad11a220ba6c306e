-- The first telling row of two words, letter by letter. If it has one letter, that is the smallest that only one word has.
-- If it has more, its first letter is the smallest behind which, in both words, a row of one letter less tells, and the rest
-- is the first row of what follows there.
use Rattle.std.proofs.Common.{◌≡◌, ℕ, suc, ◌<◌, ◌≤◌, List, [], ◌∷◌, length, refl, inl, inr, ⊎_elim, arith}
use native.Mathlib.Decide.{dec_le}
use Rattle.words.specs.Words.{Sub, Congruent, Tells, Telling, Order, here, there, LexBefore, Earlier, FirstTelling}
use Rattle.words.proofs.Subsequences.{occurs_head, within_occurs, congruent_zero, congruent_telling, after, first_occurrence}
use Rattle.words.proofs.Degrees.{Degree, Follow, both, first_only, second_only, neither, letters_apart}

-- Over letters whose equality is decided.
module _ {A : Type 0} (eq : (x y : A) → Dec (x ≡ y)) where
  -- if both words have `y`, a row that begins with it tells just if its rest does behind the first `y` of each
  pub telling_cons : {y : A} {z s t : List A} → Sub (y ∷ []) s → Sub (y ∷ []) t → Telling z (after eq y s) (after eq y t)
      → Telling (y ∷ z) s t
  telling_cons {y} {z} p q = ⊎_elim (λ h. inl (tells p q h)) (λ h. inr (tells q p h))
    where
      tells : {s t : List A} → Sub (y ∷ []) s → Sub (y ∷ []) t → Tells z (after eq y s) (after eq y t) → Tells (y ∷ z) s t
      tells p q (i, n) = ((first_occurrence eq).1 (p, i), λ j. n ((first_occurrence eq).0 j).1)

  pub telling_uncons : {y : A} {z s t : List A} → Sub (y ∷ []) s → Sub (y ∷ []) t → Telling (y ∷ z) s t
      → Telling z (after eq y s) (after eq y t)
  telling_uncons {y} {z} p q = ⊎_elim (λ h. inl (tells p q h)) (λ h. inr (tells q p h))
    where
      tells : {s t : List A} → Sub (y ∷ []) s → Sub (y ∷ []) t → Tells (y ∷ z) s t → Tells z (after eq y s) (after eq y t)
      tells p q (i, n) = (((first_occurrence eq).0 i).1, λ j. n ((first_occurrence eq).1 (q, j)))

  -- behind a letter that says less than the degree of two words, the degree is one less,
  pub follow_behind : {K r d : ℕ} {x : A} {s t : List A} → Degree K (suc (suc r)) s t → Follow eq K x s t d → d ≤ suc r
      → Sub (x ∷ []) s × Sub (x ∷ []) t × Degree K (suc r) (after eq x s) (after eq x t)
  follow_behind {K} {r} {x = x} {s = s} {t = t} f (both {d = d} p q g) l = (p, q, rw (exact (dec_le d r)) at g)
    where
      exact : Dec (d ≤ r) → d ≡ suc r
      exact (no n) = omega arith
      exact (yes h) =
          let k = suc d in
          absurd (letters_apart eq {k = k} (omega arith) (omega arith) (both p q g) ((f.1 k (omega arith)).1 (omega arith)))
  follow_behind {r = r} f (first_only p q) l =
      absurd (q (within_occurs ((f.1 (suc r) (omega arith)).1 (omega arith)).0 p))
  follow_behind {r = r} f (second_only p q) l =
      absurd (p (within_occurs ((f.1 (suc r) (omega arith)).1 (omega arith)).1 q))
  follow_behind f (neither p q) l = absurd (omega arith)

  -- and behind one that says more than `k` the words agree at `k`
  pub follow_agrees : {K k d : ℕ} {x : A} {s t : List A} → k < K → Follow eq K x s t d → k < d → Sub (x ∷ []) s
      → Congruent k (after eq x s) (after eq x t)
  follow_agrees {k = k} l (both p q f) h o = (f.1 k l).1 h
  follow_agrees l (first_only p q) h o = absurd (omega arith)
  follow_agrees l (second_only p q) h o = absurd (p o)
  follow_agrees l (neither p q) h o = absurd (p o)

module _ {A : Type 0} {lt : A → A → Type 0} (order : Order lt) (eq : (x y : A) → Dec (x ≡ y)) where
  -- of words of one length, one whose first letter is smaller, or the same with an earlier rest, is the earlier
  earlier_cons : {x y : A} {z w : List A} → length z ≡ length w → ¬ lt y x → (y ≡ x → LexBefore lt z w)
      → Earlier lt (x ∷ z) (y ∷ w)
  earlier_cons {x} {y} {z} {w} l n f = go (eq y x)
    where
      go : Dec (y ≡ x) → Earlier lt (x ∷ z) (y ∷ w)
      go (yes e) = rw e (inr (omega arith, there (f e)))
      go (no d) = ⊎_elim (λ b. absurd (n b)) (λ b. inr (omega arith, here b)) (order.total d)

  -- The smallest letter that only one of two words has is their first row.
  pub first_letter : {x : A} {s t : List A} → Telling (x ∷ []) s t → ((y : A) → lt y x → ¬ Telling (y ∷ []) s t)
      → FirstTelling lt (x ∷ []) s t
  first_letter {x} {s} {t} h f = (h, others)
    where
      others : (z : List A) → Telling z s t → ¬ (x ∷ [] ≡ z) → Earlier lt (x ∷ []) z
      others [] g d = absurd (congruent_telling (omega arith) (congruent_zero s t) g)
      others (y ∷ []) g d = earlier_cons refl (λ b. f y b g) (λ e. absurd (d (cc e)))
      others (y ∷ b ∷ z) g d = inl (omega arith)

  -- Two words that agree on all rows of `r + 1` letters, and a letter `x` behind which, in both, the first row has so many:
  -- if the words agree on those behind all smaller letters, their first row is `x` with that row behind it.
  pub first_more : {r : ℕ} {x : A} {z s t : List A} → Congruent (suc r) s t → length z ≡ suc r → Sub (x ∷ []) s
      → FirstTelling lt z (after eq x s) (after eq x t)
      → ((y : A) → lt y x → Sub (y ∷ []) s → Congruent (suc r) (after eq y s) (after eq y t))
      → FirstTelling lt (x ∷ z) s t
  first_more {r} {x} {z} {s} {t} c l o f g = (telling_cons eq o (within_occurs c.0 o) f.0, others)
    where
      occurs : (y : A) (w : List A) → Telling (y ∷ w) s t → Sub (y ∷ []) s
      occurs y w (inl (i, n)) = occurs_head i
      occurs y w (inr (i, n)) = within_occurs c.1 (occurs_head i)

      others : (w : List A) → Telling w s t → ¬ (x ∷ z ≡ w) → Earlier lt (x ∷ z) w
      others [] h d = absurd (congruent_telling (omega arith) c h)
      others (y ∷ w) h d = go (dec_le (length w) r) (dec_le (length w) (suc r))
        where
          p : Sub (y ∷ []) s
          p = occurs y w h

          behind : Telling w (after eq y s) (after eq y t)
          behind = telling_uncons eq p (within_occurs c.0 p) h

          rest : length w ≡ suc r → y ≡ x → LexBefore lt z w
          rest k e = ⊎_elim (λ b. absurd (omega arith)) (λ b. b.1) (f.1 w (rw e at behind) (λ i. d (cc (e, i))))

          go : Dec (length w ≤ r) → Dec (length w ≤ suc r) → Earlier lt (x ∷ z) (y ∷ w)
          go (yes k) j = absurd (congruent_telling (omega arith) c h)
          go (no k) (no j) = inl (omega arith)
          go (no k) (yes j) =
              earlier_cons (omega arith) (λ b. congruent_telling (omega arith) (g y b p) behind) (λ e. rest (omega arith) e)

  -- So the first row of words of degree `r + 2` begins with the smallest letter that says less.
  pub first_step : {K r : ℕ} {x : A} {z s t : List A} (T : A → ℕ) → ((y : A) → Follow eq K y s t (T y))
      → Degree K (suc (suc r)) s t → T x ≤ suc r → ((y : A) → lt y x → suc r < T y) → length z ≡ suc r
      → FirstTelling lt z (after eq x s) (after eq x t) → FirstTelling lt (x ∷ z) s t
  first_step {K} {r} {x} T f d l g h e =
      let k : suc r < K = omega arith in
      let p = (follow_behind eq d (f x) l).0 in
      first_more ((d.1 (suc r) k).1 (omega arith)) h p e (λ y i o. follow_agrees eq k (f y) (g y i) o)
