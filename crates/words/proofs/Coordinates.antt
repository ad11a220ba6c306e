-- The coordinates of a place in a word. For the letter `a` at the place and the word `q` behind it, the right coordinate is
-- the length of a shortest word `a ∷ y` that `a ∷ q` has as a subsequence and `q` has not; the left one is its mirror image
-- in the word before the place.
use Rattle.std.proofs.Common.{◌≡◌, ℕ, suc, ◌<◌, ◌≤◌, min, ◌↔◌, List, [], ◌∷◌, ◌++◌, reverse, length, get_or, sym, refl, ap, ⊎_elim, append_assoc, append-nil, arith}
use native.Mathlib.Decide.{dec_le, dec_lt}
use lib.ListN.{length-reverse}
use mathlib.Core.List.{reverse-append, reverse-reverse}
use mathlib.Core.Logic.{ite}
use Rattle.words.specs.Words.{Sub, done, skip, keep, Within, Congruent}
unfoldable pub use Rattle.words.specs.Steps.{right, left, rights, lefts}
use Rattle.words.proofs.Subsequences.{sub_refl, sub_length, not_sub_nil, sub_tail}
use Rattle.words.proofs.Subsequences.{strip_heads, strip_other, keep_equal, sub_reverse, sub_unreverse, sub_new, within_sub}

module _ {A : Type 0} (eq : (x y : A) → Dec (x ≡ y)) where
  -- ── The right coordinate ──

  pub right_none : (a : A) → right eq a [] ≡ 1
  unfolding right
  right_none a = refl

  pub right_same : {a c : A} (q : List A) → a ≡ c → right eq a (c ∷ q) ≡ suc (right eq a q)
  unfolding right
  right_same {a} {c} q e = go (eq a c)
    where
      go : (d : Dec (a ≡ c)) → ite d (suc (right eq a q)) (min (right eq a q) (suc (right eq c q))) ≡ suc (right eq a q)
      go (yes _) = refl
      go (no n) = absurd (n e)

  pub right_other : {a c : A} (q : List A) → ¬ (a ≡ c) → right eq a (c ∷ q) ≡ min (right eq a q) (suc (right eq c q))
  unfolding right
  right_other {a} {c} q n = go (eq a c)
    where
      go : (d : Dec (a ≡ c))
          → ite d (suc (right eq a q)) (min (right eq a q) (suc (right eq c q))) ≡ min (right eq a q) (suc (right eq c q))
      go (yes e) = absurd (n e)
      go (no _) = refl

  -- `y` with `a` in front lies in `a ∷ q`, does not lie in `q`, and has the length `right a q`
  abbrev pub RightWitness : A → List A → Type 0
  RightWitness a q = (y : List A) × Sub y q × (¬ Sub (a ∷ y) q) × (suc (length y) ≡ right eq a q)

  -- The right coordinate is the length of such a word,
  pub right_is : (a : A) (q : List A) → RightWitness a q
  right_is a [] = ([], done, not_sub_nil, sym (right_none a))
  right_is a (c ∷ q) = go (eq a c) (dec_le (right eq a q) (suc (right eq c q))) (right_is a q) (right_is c q)
    where
      go : Dec (a ≡ c) → Dec (right eq a q ≤ suc (right eq c q)) → RightWitness a q → RightWitness c q
          → RightWitness a (c ∷ q)
      go (yes e) l (y, s, n, h) t = (c ∷ y, keep s, λ i. n (rw e (strip_heads i)), omega (arith, right_same q e))
      go (no d) (yes l) (y, s, n, h) t = (y, skip s, λ i. n (strip_other d i), omega (arith, right_other q d))
      go (no d) (no l) s (y, t, n, h) = (c ∷ y, keep t, λ i. n (sub_tail (strip_other d i)), omega (arith, right_other q d))

  -- and none is shorter.
  pub right_least : {a : A} {q y : List A} → Sub y q → ¬ Sub (a ∷ y) q → right eq a q ≤ suc (length y)
  right_least {a} {q} {y} s n = least q a y s n
    where
      Least : List A → Type 0
      Least q = (a : A) (y : List A) → Sub y q → ¬ Sub (a ∷ y) q → right eq a q ≤ suc (length y)

      least : (q : List A) → Least q
      least [] a y s n = omega (arith, right_none a)
      least (c ∷ q) a y s n = go (eq a c) (least q)
        where
          go : Dec (a ≡ c) → Least q → right eq a (c ∷ q) ≤ suc (length y)
          go (yes e) f =
              ⊎_elim (λ t. absurd (n (keep_equal e t)))
              (λ k. omega (arith, right_same q e, ap length k.1, f a k.0 k.2 (λ j. k.3 (rw e at j)))) (sub_new eq s)
          go (no d) f =
              ⊎_elim (λ t. omega (arith, right_other q d, f a y t (λ j. n (skip j))))
              (λ k. omega (arith, right_other q d, ap length k.1, f c k.0 k.2 k.3)) (sub_new eq s)

  pub right_positive : (a : A) (q : List A) → 0 < right eq a q
  right_positive a q = let (y, s, n, h) = right_is a q in omega arith

  pub right_bound : (a : A) (q : List A) → right eq a q ≤ suc (length q)
  right_bound a q = let (y, s, n, h) = right_is a q in omega (arith, sub_length s)

  -- to the left the coordinate rises by one at most
  pub right_step : (a c : A) (q : List A) → right eq a (c ∷ q) ≤ suc (right eq c q)
  right_step a c q = go (eq a c)
    where
      go : Dec (a ≡ c) → right eq a (c ∷ q) ≤ suc (right eq c q)
      go (yes e) = rw (right_same q e, e) (omega arith)
      go (no n) = omega (arith, right_other q n)

  -- the coordinates before a place depend on what follows only by the coordinates there
  pub same_append : (s t : List A) → ((c : A) → right eq c s ≡ right eq c t) → (r : List A) (c : A)
      → right eq c (r ++ s) ≡ right eq c (r ++ t)
  same_append s t f [] c = f c
  same_append s t f (b ∷ r) c = go (eq c b) (same_append s t f r c) (same_append s t f r b)
    where
      go : Dec (c ≡ b) → right eq c (r ++ s) ≡ right eq c (r ++ t) → right eq b (r ++ s) ≡ right eq b (r ++ t)
          → right eq c (b ∷ (r ++ s)) ≡ right eq c (b ∷ (r ++ t))
      go (yes e) h k = omega (arith, right_same (r ++ s) e, right_same (r ++ t) e)
      go (no d) h k = omega (arith, right_other (r ++ s) d, right_other (r ++ t) d)

  -- A letter in front of a word adds no subsequence of at most `k` letters exactly if `k` is below its coordinate.
  pub block : (k : ℕ) (a : A) (q : List A) → Congruent k q (a ∷ q) ↔ (k < right eq a q)
  block k a q = (λ h. below (dec_lt k (right eq a q)) (right_is a q) h, λ l. (within_sub k (skip (sub_refl q)), back l))
    where
      below : Dec (k < right eq a q) → RightWitness a q → Congruent k q (a ∷ q) → k < right eq a q
      below (yes l) w h = l
      below (no l) (y, s, n, e) h = absurd (n (h.1 (a ∷ y) (omega arith) (keep s)))

      back : k < right eq a q → Within k (a ∷ q) q
      back l z h s =
          ⊎_elim (λ t. t) (λ k. absurd (omega (arith, ap length k.1, right_least k.2 k.3))) (sub_new eq s)

  -- ── The left coordinate ──

  pub left_none : (a : A) → left eq [] a ≡ 1
  unfolding left
  left_none a = right_none a

  pub left_same : {a c : A} (p : List A) → a ≡ c → left eq (p ++ c ∷ []) a ≡ suc (left eq p a)
  unfolding left
  left_same {a} {c} p e = rw (reverse-append p (c ∷ [])) (right_same (reverse p) e)

  pub left_other : {a c : A} (p : List A) → ¬ (a ≡ c) → left eq (p ++ c ∷ []) a ≡ min (left eq p a) (suc (left eq p c))
  unfolding left
  left_other {a} {c} p n = rw (reverse-append p (c ∷ [])) (right_other (reverse p) n)

  -- `x` with `a` behind it lies in `p ++ a ∷ []`, does not lie in `p`, and has the length `left p a`
  abbrev pub LeftWitness : List A → A → Type 0
  LeftWitness p a = (x : List A) × Sub x p × (¬ Sub (x ++ a ∷ []) p) × (suc (length x) ≡ left eq p a)

  -- The left coordinate is the length of such a word,
  pub left_is : (p : List A) (a : A) → LeftWitness p a
  unfolding left
  left_is p a = mirror (right_is a (reverse p))
    where
      mirror : RightWitness a (reverse p) → LeftWitness p a
      mirror (y, s, n, e) = (
        reverse y,
        rw reverse-reverse at (sub_reverse s),
        λ i. n (rw (reverse-append, reverse-reverse) at (sub_reverse i)),
        omega (arith, length-reverse y),
      )

  -- and none is shorter.
  pub left_least : {p x : List A} (a : A) → Sub x p → ¬ Sub (x ++ a ∷ []) p → left eq p a ≤ suc (length x)
  unfolding left
  left_least {p} {x} a s n =
      let h = right_least (sub_reverse s) (λ i. n (sub_unreverse (rw (reverse-append x (a ∷ [])) i))) in
      omega (arith, length-reverse x)

  pub left_positive : (p : List A) (a : A) → 0 < left eq p a
  unfolding left
  left_positive p a = right_positive a (reverse p)

  pub left_bound : (p : List A) (a : A) → left eq p a ≤ suc (length p)
  unfolding left
  left_bound p a = omega (arith, right_bound a (reverse p), length-reverse p)

  -- the coordinates behind a place depend on what comes before only by the coordinates there
  pub left_same_append : (s t : List A) → ((c : A) → left eq s c ≡ left eq t c) → (r : List A) (c : A)
      → left eq (s ++ r) c ≡ left eq (t ++ r) c
  unfolding left
  left_same_append s t f r c =
      rw (reverse-append s r, reverse-append t r) (same_append (reverse s) (reverse t) f (reverse r) c)

  -- ── The coordinates of all places ──

  pub rights_at : (s : List A) (c : A) (t : List A) → get_or (rights eq (s ++ c ∷ t)) (length s) 0 ≡ right eq c t
  rights_at [] c t = refl
  rights_at (b ∷ s) c t = rights_at s c t

  pub lefts_at : (p s : List A) (c : A) (t : List A) → get_or (lefts eq p (s ++ c ∷ t)) (length s) 0 ≡ left eq (p ++ s) c
  lefts_at p [] c t = rw append-nil
  lefts_at p (b ∷ s) c t = rw (append_assoc p (b ∷ []) s) at (lefts_at (p ++ b ∷ []) s c t)

  pub same_rights : (s t : List A) → ((c : A) → right eq c s ≡ right eq c t) → rights eq s ≡ rights eq t → (r : List A)
      → rights eq (r ++ s) ≡ rights eq (r ++ t)
  same_rights s t f e [] = e
  same_rights s t f e (b ∷ r) = cc (same_append s t f r b, same_rights s t f e r)

  pub same_lefts : (s t : List A) → ((c : A) → left eq s c ≡ left eq t c) → (r : List A) → lefts eq s r ≡ lefts eq t r
  same_lefts s t f [] = refl
  same_lefts s t f (b ∷ r) =
      cc (f b, same_lefts (s ++ b ∷ []) (t ++ b ∷ []) (left_same_append s t f (b ∷ [])) r)

  pub lefts_append : (p s t : List A) → lefts eq p (s ++ t) ≡ lefts eq p s ++ lefts eq (p ++ s) t
  lefts_append p [] t = rw append-nil
  lefts_append p (b ∷ s) t = ap (λ l. left eq p b ∷ l) (rw (append_assoc p (b ∷ []) s) at (lefts_append (p ++ b ∷ []) s t))
