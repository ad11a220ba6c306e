-- Which letters of a word can be dropped without changing its subsequences of at most `k` letters: those at places whose
-- coordinates have a sum above `k + 1`. A letter that cannot be dropped stays so when others are; so one pass from the last
-- letter to the first, dropping each that can be dropped, leaves a word with none to drop.
use Rattle.std.proofs.Common.{◌≡◌, ℕ, suc, ◌+◌, ◌<◌, ◌≤◌, ◌⊎◌, ◌↔◌, List, [], ◌∷◌, ◌++◌, length, refl, ap, inl, inr, ⊎_elim, append_assoc, append-nil, arith}
use native.Mathlib.Decide.{dec_le, dec_lt}
use mathlib.Core.List.{head-eq_of_cons-eq, tail-eq_of_cons-eq}
use mathlib.Core.Logic.{ite, if_pos, if_neg}
use Rattle.words.specs.Words.{Sub, done, skip, keep, Within, Congruent}
use Rattle.words.proofs.Subsequences.{sub_refl, sub_whole, sub_append, sub_front, length_around, landing, cut_at}
use Rattle.words.proofs.Subsequences.{within_sub, within_trans, congruent_refl, congruent_trans, sub?}
use Rattle.words.proofs.Coordinates.{right, right_is, right_least, RightWitness, left, left_is, left_least, LeftWitness}

module _ {A : Type 0} (eq : (x y : A) → Dec (x ≡ y)) where
  -- ── One letter ──

  -- `p ++ q` has all the subsequences of `p ++ a ∷ q` of at most `k` letters exactly if the coordinates of the place of `a`
  -- have a sum above `k + 1`: a shortest word that needs this `a` joins a shortest one on its left to one on its right.
  pub dropping : (k : ℕ) (p : List A) (a : A) (q : List A)
      → Within k (p ++ a ∷ q) (p ++ q) ↔ (suc k < left eq p a + right eq a q)
  dropping k p a q = (λ f. above f (dec_lt (suc k) (left eq p a + right eq a q)) (left_is eq p a) (right_is eq a q), enough)
    where
      above : Within k (p ++ a ∷ q) (p ++ q) → Dec (suc k < left eq p a + right eq a q) → LeftWitness eq p a
          → RightWitness eq a q → suc k < left eq p a + right eq a q
      above f (yes l) w v = l
      above f (no l) (x, s, n, e) (y, t, m, h) =
          absurd (⊎_elim n m (landing x p (f (x ++ a ∷ y) (omega (arith, length_around x a y)) (sub_append s (keep t)))))

      enough : suc k < left eq p a + right eq a q → Within k (p ++ a ∷ q) (p ++ q)
      enough l z h s = go (sub? eq z (p ++ q)) (cut_at p s)
        where
          go : Dec (Sub z (p ++ q))
              → Sub z (p ++ q) ⊎ ((x : List A) × (y : List A) × (z ≡ x ++ a ∷ y) × Sub x p × Sub y q)
              → Sub z (p ++ q)
          go (yes t) w = t
          go (no n) (inl t) = t
          go (no n) (inr (x, y, e, sx, sy)) =
              let lx = left_least eq a sx (λ i. n (rw (e, ← append_assoc x (a ∷ []) y) (sub_append i sy))) in
              let ly = right_least eq sy (λ i. n (rw e (sub_append sx i))) in
              absurd (omega (arith, length_around x a y, ap length e))

  -- ── Words without a letter to drop ──

  -- the letter `a` between `p` and `q` cannot be dropped
  abbrev pub Needed : ℕ → List A → A → List A → Type 0
  Needed k p a q = left eq p a + right eq a q ≤ suc k

  abbrev pub needed? : (k : ℕ) (p : List A) (a : A) (q : List A) → Dec (Needed k p a q)
  needed? k p a q = dec_le (left eq p a + right eq a q) (suc k)

  -- all places of `r` in `p ++ r` are needed
  abbrev pub NeededBehind : ℕ → List A → List A → Type 0
  NeededBehind k p r = (s : List A) (c : A) (t : List A) → r ≡ s ++ c ∷ t → Needed k (p ++ s) c t

  -- all places of `w` are needed
  abbrev pub Lean : ℕ → List A → Type 0
  Lean k w = NeededBehind k [] w

  -- A place that is needed is so in every congruent subsequence that still has its letter: if not, the letter could be
  -- dropped there too, and so from the word, which lies between.
  pub needed_stays : {S s T t : List A} (k : ℕ) (c : A) → Sub s S → Sub t T → Within k (S ++ c ∷ T) (s ++ c ∷ t)
      → Needed k S c T → Needed k s c t
  needed_stays {S} {s} {T} {t} k c hs ht f l = go (needed? k s c t)
    where
      go : Dec (Needed k s c t) → Needed k s c t
      go (yes m) = m
      go (no n) =
          let g = within_trans (within_trans f ((dropping k s c t).1 (omega arith))) (within_sub k (sub_append hs ht)) in
          absurd (omega (arith, (dropping k S c T).0 g))

  -- ── One step of the pass ──

  -- The pass over `w` has come to the front `p`, and has kept `r` of what is behind it. At the empty front, `r` is congruent
  -- to `w` and lean.
  pub record Passed (k : ℕ) (w p r : List A) : Type 0 where
    pub congruent : Congruent k w (p ++ r)
    pub needed : NeededBehind k p r

  pub pass_start : (k : ℕ) (w : List A) → Passed k w w []
  pass_start k w = record {
    congruent = rw append-nil (congruent_refl k w);
    needed = λ s c t e. absurd (omega (arith, ap length e, length_around s c t));
  }

  -- a needed letter is kept,
  pub keep_step : {k : ℕ} {w p r : List A} {a : A} → Passed k w (p ++ a ∷ []) r → Needed k p a r → Passed k w p (a ∷ r)
  keep_step {k} {w} {p} {r} {a} h l = record { congruent = rw append_assoc at h.congruent; needed = places }
    where
      places : NeededBehind k p (a ∷ r)
      places [] c t e = rw (append-nil p, ← head-eq_of_cons-eq e, ← tail-eq_of_cons-eq e) l
      places (b ∷ s) c t e =
          rw (← head-eq_of_cons-eq e, ← append_assoc p (a ∷ []) s) (h.needed s c t (tail-eq_of_cons-eq e))

  -- and another is dropped.
  pub drop_step : {k : ℕ} {w p r : List A} (a : A) → Passed k w (p ++ a ∷ []) r → ¬ Needed k p a r → Passed k w p r
  drop_step {k} {w} {p} {r} a h n = record {
    congruent = congruent_trans (rw append_assoc at h.congruent) (less, within_sub k shorter);
    needed = places;
  }
    where
      shorter : Sub (p ++ r) (p ++ a ∷ r)
      shorter = sub_append (sub_refl p) (skip (sub_refl r))

      less : Within k (p ++ a ∷ r) (p ++ r)
      less = (dropping k p a r).1 (omega arith)

      places : NeededBehind k p r
      places s c t e =
          needed_stays k c (sub_append (sub_front p (a ∷ [])) (sub_refl s)) (sub_refl t) around (h.needed s c t e)
        where
          around : Within k (((p ++ a ∷ []) ++ s) ++ c ∷ t) ((p ++ s) ++ c ∷ t)
          around = rw (append_assoc (p ++ a ∷ []) s (c ∷ t), append_assoc p s (c ∷ t), ← e, append_assoc p (a ∷ []) r) less

  -- ── The whole pass ──

  -- the kept letters `r` behind the place of `a`, and `a` too if it is needed there
  keep_needed : ℕ → List A → A → List A → List A
  keep_needed k p a r = ite (needed? k p a r) (a ∷ r) r

  -- what is kept of `w` behind the front `p`
  pub pass : ℕ → List A → List A → List A
  pass k p [] = []
  pass k p (a ∷ w) = keep_needed k p a (pass k (p ++ a ∷ []) w)

  pub pass_none : (k : ℕ) (p : List A) → pass k p [] ≡ []
  unfolding pass
  pass_none k p = refl

  pub pass_kept : (k : ℕ) (p : List A) (a : A) (w : List A) → Needed k p a (pass k (p ++ a ∷ []) w)
      → pass k p (a ∷ w) ≡ a ∷ pass k (p ++ a ∷ []) w
  unfolding pass keep_needed
  pass_kept k p a w l = let r = pass k (p ++ a ∷ []) w in if_pos (needed? k p a r) l (a ∷ r) r

  pub pass_dropped : (k : ℕ) (p : List A) (a : A) (w : List A) → ¬ Needed k p a (pass k (p ++ a ∷ []) w)
      → pass k p (a ∷ w) ≡ pass k (p ++ a ∷ []) w
  unfolding pass keep_needed
  pass_dropped k p a w n = let r = pass k (p ++ a ∷ []) w in if_neg (needed? k p a r) n (a ∷ r) r

  -- The pass goes by such steps,
  pub passed : (k : ℕ) (p w : List A) → Passed k (p ++ w) p (pass k p w)
  passed k p [] = rw (append-nil p, pass_none k p) (pass_start k p)
  passed k p (a ∷ w) = go (needed? k p a (pass k (p ++ a ∷ []) w)) (passed k (p ++ a ∷ []) w)
    where
      go : Dec (Needed k p a (pass k (p ++ a ∷ []) w))
          → Passed k ((p ++ a ∷ []) ++ w) (p ++ a ∷ []) (pass k (p ++ a ∷ []) w)
          → Passed k (p ++ a ∷ w) p (pass k p (a ∷ w))
      go (yes l) h = rw (pass_kept k p a w l, ← append_assoc p (a ∷ []) w) (keep_step h l)
      go (no n) h = rw (pass_dropped k p a w n, ← append_assoc p (a ∷ []) w) (drop_step a h n)

  -- so what it leaves of a word is congruent to it,
  pub pass_congruent : (k : ℕ) (w : List A) → Congruent k w (pass k [] w)
  pass_congruent k w = (passed k [] w).congruent

  -- is lean,
  pub pass_lean : (k : ℕ) (w : List A) → Lean k (pass k [] w)
  pass_lean k w = (passed k [] w).needed

  -- and is a subsequence of the word,
  pub pass_sub : (k : ℕ) (p w : List A) → Sub (pass k p w) w
  pass_sub k p [] = rw (pass_none k p) done
  pass_sub k p (a ∷ w) = go (needed? k p a (pass k (p ++ a ∷ []) w)) (pass_sub k (p ++ a ∷ []) w)
    where
      go : Dec (Needed k p a (pass k (p ++ a ∷ []) w)) → Sub (pass k (p ++ a ∷ []) w) w → Sub (pass k p (a ∷ w)) (a ∷ w)
      go (yes l) s = rw (pass_kept k p a w l) (keep s)
      go (no n) s = rw (pass_dropped k p a w n) (skip s)

  -- as long as the word only if nothing was dropped.
  pub pass_whole : (k : ℕ) (w : List A) → length (pass k [] w) ≡ length w → pass k [] w ≡ w
  pass_whole k w e = sub_whole (pass_sub k [] w) e
