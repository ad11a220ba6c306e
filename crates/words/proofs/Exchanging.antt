-- Which neighbours of a word can be exchanged without changing its subsequences of at most `k` letters: those at places with
-- the same coordinates, of the sum `k + 1`. The exchange leaves every place the coordinates it had.
use Rattle.std.proofs.Common.{◌≡◌, ℕ, suc, ◌+◌, ◌<◌, ◌⊎◌, ◌↔◌, List, [], ◌∷◌, ◌++◌, reverse, length, get_or, sym, refl, ap, ◌∙◌, inl, inr, append_assoc, append-nil, arith}
use mathlib.Core.List.{reverse-append}
use mathlib.Core.List.{head-eq_of_cons-eq, tail-eq_of_cons-eq}
use Rattle.words.specs.Words.{Sub, skip, keep, Within, Congruent}
pub use Rattle.words.specs.Steps.{Level}
use Rattle.words.proofs.Subsequences.{sub_refl, sub_trans, sub_append, sub_uncons, sub?}
use Rattle.words.proofs.Subsequences.{length_around, length_end, cut_at, align, congruent_trans}
use Rattle.words.proofs.Coordinates.{right, right_same, right_other, right_least, same_append}
use Rattle.words.proofs.Coordinates.{left, left_same, left_other, left_least, left_same_append}
use Rattle.words.proofs.Coordinates.{rights, rights_at, same_rights, lefts, lefts_at, lefts_append, same_lefts}
use Rattle.words.proofs.Dropping.{Needed, Lean}

module _ {A : Type 0} (eq : (x y : A) → Dec (x ≡ y)) where
  -- A subsequence of `p ++ a ∷ b ∷ q` that is lost when the two letters are exchanged uses both; it has at least as many
  -- letters as the coordinates of the two letters together, taken in `p` and in `q`.
  pub swap_within : {k : ℕ} (p : List A) (a b : A) (q : List A) → k < left eq p a + right eq b q
      → Within k (p ++ a ∷ b ∷ q) (p ++ b ∷ a ∷ q)
  swap_within {k} p a b q l z h s = go (sub? eq z (p ++ b ∷ a ∷ q)) (cut_at p s)
    where
      without_a : Sub (p ++ b ∷ q) (p ++ b ∷ a ∷ q)
      without_a = sub_append (sub_refl p) (keep (skip (sub_refl q)))

      without_b : Sub (p ++ a ∷ q) (p ++ b ∷ a ∷ q)
      without_b = sub_append (sub_refl p) (skip (sub_refl (a ∷ q)))

      go : Dec (Sub z (p ++ b ∷ a ∷ q))
          → Sub z (p ++ b ∷ q) ⊎ ((x : List A) × (y : List A) × (z ≡ x ++ a ∷ y) × Sub x p × Sub y (b ∷ q))
          → Sub z (p ++ b ∷ a ∷ q)
      go (yes t) w = t
      go (no n) (inl t) = sub_trans t without_a
      go (no n) (inr (x, y, e, sx, sy)) = by (sub_uncons sy)
        where
          by : Sub y q ⊎ ((v : List A) × (y ≡ b ∷ v) × Sub v q) → Sub z (p ++ b ∷ a ∷ q)
          by (inl t) = sub_trans (rw e (sub_append sx (keep t))) without_b
          by (inr (v, f, sv)) =
              let g : z ≡ x ++ a ∷ b ∷ v = cc (e, f) in
              let g' : z ≡ (x ++ a ∷ []) ++ b ∷ v = rw (g, append_assoc x (a ∷ []) (b ∷ v)) in
              let lx = left_least eq a sx (λ i. n (sub_trans (rw g' (sub_append i (keep sv))) without_a)) in
              let lv = right_least eq sv (λ i. n (sub_trans (rw g (sub_append sx (keep i))) without_b)) in
              absurd (omega (arith, length_around x a (b ∷ v), ap length g))

  -- the neighbours `a` and `b` between `p` and `q` have the same coordinates, of the sum `k + 1`
  pub record Exchangeable (k : ℕ) (p : List A) (a b : A) (q : List A) : Type 0 where
    pub same_left : left eq p a ≡ left eq (p ++ a ∷ []) b
    pub same_right : right eq a (b ∷ q) ≡ right eq b q
    pub sum : left eq p a + right eq a (b ∷ q) ≡ suc k

  exchangeable_different : {k : ℕ} {p : List A} {a b : A} {q : List A} → Exchangeable k p a b q → ¬ (a ≡ b)
  exchangeable_different {p = p} x e = omega (arith, left_same eq p (sym e), ap (left eq p) e)

  -- either letter alone has these coordinates too
  exchangeable_alone : {k : ℕ} {p : List A} {a b : A} {q : List A} → Exchangeable k p a b q
      → (left eq p a ≡ left eq p b) × (right eq a q ≡ right eq b q)
  exchangeable_alone {p = p} {q = q} x =
      let n = exchangeable_different x in
      (omega (arith, left_other eq p (λ e. n (sym e))), omega (arith, right_other eq q n))

  -- exchanged, they are exchangeable again
  pub exchangeable_back : {k : ℕ} {p : List A} {a b : A} {q : List A} → Exchangeable k p a b q → Exchangeable k p b a q
  exchangeable_back {k} {p} {a} {b} {q} x =
      let n = exchangeable_different x in
      let (hl, hr) = exchangeable_alone x in
      let r = right_other eq {a = b} {c = a} q (λ e. n (sym e)) in
      record { same_left = omega (arith, left_other eq p n); same_right = omega arith; sum = omega arith }

  -- The exchanged word has the same subsequences of at most `k` letters.
  pub exchange : {k : ℕ} {p : List A} {a b : A} {q : List A} → Exchangeable k p a b q
      → Congruent k (p ++ a ∷ b ∷ q) (p ++ b ∷ a ∷ q)
  exchange {k} {p} {a} {b} {q} x =
      let y = exchangeable_back x in
      (swap_within p a b q (omega arith), swap_within p b a q (omega arith))

  -- ── The coordinates of the other places ──

  -- two letters with the same coordinate in front of `q`, in either order, look the same to a letter before them
  swap_right : {a b : A} (q : List A) → ¬ (a ≡ b) → right eq a q ≡ right eq b q → (c : A)
      → right eq c (a ∷ b ∷ q) ≡ right eq c (b ∷ a ∷ q)
  swap_right {a} {b} q n h c = go (eq c a) (eq c b)
    where
      first : {a b : A} → ¬ (a ≡ b) → right eq a q ≡ right eq b q → right eq a (a ∷ b ∷ q) ≡ right eq a (b ∷ a ∷ q)
      first {a} {b} n h =
          omega (
            arith,
            right_same eq {a = a} (b ∷ q) refl,
            right_other eq q n,
            right_other eq (a ∷ q) n,
            right_same eq {a = a} q refl,
            right_other eq {a = b} {c = a} q (λ e. n (sym e)),
          )

      go : Dec (c ≡ a) → Dec (c ≡ b) → right eq c (a ∷ b ∷ q) ≡ right eq c (b ∷ a ∷ q)
      go (yes e) d = rw e (first n h)
      go (no m) (yes e) = rw e (sym (first (λ f. n (sym f)) (sym h)))
      go (no m) (no o) =
          omega (
            arith,
            right_other eq (b ∷ q) m,
            right_other eq q n,
            right_other eq q o,
            right_other eq (a ∷ q) o,
            right_other eq {a = b} {c = a} q (λ e. n (sym e)),
            right_other eq q m,
          )

  -- Every letter before the two places has the right coordinate that it had,
  pub exchange_right : {k : ℕ} {p : List A} {a b : A} {q : List A} → Exchangeable k p a b q → (c : A)
      → right eq c (a ∷ b ∷ q) ≡ right eq c (b ∷ a ∷ q)
  exchange_right {q = q} x c = swap_right q (exchangeable_different x) (exchangeable_alone x).1 c

  -- and every letter behind them the left one.
  pub exchange_left : {k : ℕ} {p : List A} {a b : A} {q : List A} → Exchangeable k p a b q → (c : A)
      → left eq (p ++ a ∷ b ∷ []) c ≡ left eq (p ++ b ∷ a ∷ []) c
  unfolding left
  exchange_left {p = p} {a = a} {b = b} x c =
      rw (reverse-append p (a ∷ b ∷ []), reverse-append p (b ∷ a ∷ []))
      (sym (swap_right (reverse p) (exchangeable_different x) (exchangeable_alone x).0 c))

  -- so a lean word stays lean
  pub exchange_lean : {k : ℕ} {p : List A} {a b : A} {q : List A} → Exchangeable k p a b q → Lean eq k (p ++ a ∷ b ∷ q)
      → Lean eq k (p ++ b ∷ a ∷ q)
  exchange_lean {k} {p} {a} {b} {q} x h s c t e = go (exchangeable_back x) (align s p (sym e))
    where
      go : Exchangeable k p b a q
          → ((m : List A) × (p ≡ s ++ c ∷ m) × (t ≡ m ++ b ∷ a ∷ q))
          ⊎ ((m : List A) × (s ≡ p ++ m) × (b ∷ a ∷ q ≡ m ++ c ∷ t))
          → Needed eq k s c t
      go y (inl (m, f, g)) =
          let l = h s c (m ++ a ∷ b ∷ q) (rw (f, append_assoc)) in
          omega (arith, ap (right eq c) g, same_append eq (a ∷ b ∷ q) (b ∷ a ∷ q) (exchange_right x) m c)
      go y (inr ([], f, g)) = rw (f, append-nil p, ← head-eq_of_cons-eq g, ← tail-eq_of_cons-eq g) (omega arith)
      go y (inr (d ∷ [], f, g)) =
          let i = tail-eq_of_cons-eq g in
          rw (f, ← head-eq_of_cons-eq g, ← head-eq_of_cons-eq i, ← tail-eq_of_cons-eq i) (omega arith)
      go y (inr (d ∷ d' ∷ m, f, g)) =
          let i = tail-eq_of_cons-eq g in
          let l = h (p ++ a ∷ b ∷ m) c t (rw (append_assoc p (a ∷ b ∷ m), ← tail-eq_of_cons-eq i)) in
          let j = left_same_append eq (p ++ a ∷ b ∷ []) (p ++ b ∷ a ∷ []) (exchange_left x) m c in
          let j' = rw (append_assoc p (a ∷ b ∷ []) m, append_assoc p (b ∷ a ∷ []) m) at j in
          rw (f, ← head-eq_of_cons-eq g, ← head-eq_of_cons-eq i) (omega arith)

  -- ── By the lists of coordinates ──

  pub exchange_rights : {k : ℕ} {p : List A} {a b : A} {q : List A} → Exchangeable k p a b q
      → rights eq (p ++ a ∷ b ∷ q) ≡ rights eq (p ++ b ∷ a ∷ q)
  exchange_rights {p = p} {a = a} {b = b} {q = q} x =
      same_rights eq (a ∷ b ∷ q) (b ∷ a ∷ q) (exchange_right x)
      (cc (x.same_right, (exchangeable_alone x).1, (exchangeable_back x).same_right)) p

  pub exchange_lefts : {k : ℕ} {p : List A} {a b : A} {q : List A} → Exchangeable k p a b q
      → lefts eq [] (p ++ a ∷ b ∷ q) ≡ lefts eq [] (p ++ b ∷ a ∷ q)
  exchange_lefts {p = p} {a = a} {b = b} {q = q} x =
      let behind = same_lefts eq (p ++ a ∷ b ∷ []) (p ++ b ∷ a ∷ []) (exchange_left x) q in
      rw (lefts_append eq [] p (a ∷ b ∷ q), lefts_append eq [] p (b ∷ a ∷ q))
      (rw (append_assoc p (a ∷ []) (b ∷ []), append_assoc p (b ∷ []) (a ∷ []))
      (cc (x.same_left, (exchangeable_alone x).0, (exchangeable_back x).same_left, behind)))

  -- What exchanges keep: `f` is congruent to `w` and lean, and has the left coordinates `L` and the right ones `R`.
  pub record Arranged (k : ℕ) (w : List A) (L R : List ℕ) (f : List A) : Type 0 where
    pub congruent : Congruent k w f
    pub lean : Lean eq k f
    pub lefts_are : lefts eq [] f ≡ L
    pub rights_are : rights eq f ≡ R

  pub exchange_start : {k : ℕ} {w f : List A} → Congruent k w f → Lean eq k f → Arranged k w (lefts eq [] f) (rights eq f) f
  exchange_start c l = record { congruent = c; lean = l; lefts_are = refl; rights_are = refl }

  pub exchange_step : {k : ℕ} {w : List A} {L R : List ℕ} {p : List A} {a b : A} {q : List A} → Exchangeable k p a b q
      → Arranged k w L R (p ++ a ∷ b ∷ q) → Arranged k w L R (p ++ b ∷ a ∷ q)
  exchange_step x h = record {
    congruent = congruent_trans h.congruent (exchange x);
    lean = exchange_lean x h.lean;
    lefts_are = sym (exchange_lefts x) ∙ h.lefts_are;
    rights_are = sym (exchange_rights x) ∙ h.rights_are;
  }

  -- the two lists say which neighbours can be exchanged
  pub exchangeable_at : {k : ℕ} {w : List A} {L R : List ℕ} (p : List A) {a b : A} {q : List A}
      → Arranged k w L R (p ++ a ∷ b ∷ q) → Exchangeable k p a b q ↔ Level k L R (length p)
  exchangeable_at {k} p {a} {b} {q} h =
      rw (← h.lefts_are, ← h.rights_are, lefts_at eq [] p a (b ∷ q), rights_at eq p a (b ∷ q), next_left, next_right)
      (λ x. (x.same_left, x.same_right, x.sum), λ t. record { same_left = t.0; same_right = t.1; sum = t.2 })
    where
      next_left : get_or (lefts eq [] (p ++ a ∷ b ∷ q)) (suc (length p)) 0 ≡ left eq (p ++ a ∷ []) b
      next_left = rw (append_assoc p (a ∷ []) (b ∷ q), length_end p a) at (lefts_at eq [] (p ++ a ∷ []) b q)

      next_right : get_or (rights eq (p ++ a ∷ b ∷ q)) (suc (length p)) 0 ≡ right eq b q
      next_right = rw (append_assoc p (a ∷ []) (b ∷ q), length_end p a) at (rights_at eq (p ++ a ∷ []) b q)

  -- ── Sorted words ──

  -- no neighbours that can be exchanged stand in the wrong order
  abbrev pub Sorted : (A → A → Type 0) → ℕ → List A → Type 0
  Sorted lt k f = (p : List A) (a b : A) (q : List A) → f ≡ p ++ a ∷ b ∷ q → Exchangeable k p a b q → ¬ lt b a

  -- a word is sorted if it is where its lists of coordinates say that neighbours can be exchanged
  pub sorted_by : {k : ℕ} {w : List A} {L R : List ℕ} {f : List A} (lt : A → A → Type 0) → Arranged k w L R f
      → ((p : List A) (a b : A) (q : List A) → f ≡ p ++ a ∷ b ∷ q → Level k L R (length p) → ¬ lt b a)
      → Sorted lt k f
  sorted_by lt h s p a b q e x = s p a b q e ((exchangeable_at p (rw e at h)).0 x)
