-- The definitions, tried on short words of numbers.
use Rattle.std.proofs.Common.{◌≡◌, ℕ, ◌<◌, ◌≤◌, ◌⊎◌, List, [], ◌∷◌, ◌++◌, length, sym, refl, ◌∙◌, inl, inr, ⊎_elim, arith}
use native.Mathlib.Decide.{ℕ_discrete, dec_le, dec_lt}
use Rattle.words.specs.Words.{Sub, done, skip, keep, Within, Congruent, Telling, Order, here, Earlier, FirstTelling, IsForm}
use Rattle.words.proofs.Subsequences.{sub_empty, sub_refl, sub_length, sub_whole, sub_front, sub_back}
use Rattle.words.proofs.Subsequences.{sub_trans, strip_heads, not_sub_nil, occurs_append, congruent_less, after}
use Rattle.words.proofs.Coordinates.{right, right_none, left}
use Rattle.words.proofs.Degrees.{Degree}
use Rattle.words.proofs.Partners.{stop_none, Partner, last, next}

abbrev up : List ℕ
up = 1 ∷ 2 ∷ []

abbrev down : List ℕ
down = 2 ∷ 1 ∷ []

-- letters are left out,
left_out : Sub up (1 ∷ 3 ∷ 2 ∷ 1 ∷ [])
left_out = keep (skip (keep (skip done)))

-- and never exchanged
not_exchanged : ¬ Sub up down
not_exchanged (skip s) = not_sub_nil (strip_heads s)

not_exchanged_back : ¬ Sub down up
not_exchanged_back (skip s) = not_sub_nil (strip_heads s)

-- the two words agree on single letters, and not on pairs
same_letters : Congruent 1 up down
same_letters = (within (1 ∷ []) (2 ∷ []), within (2 ∷ []) (1 ∷ []))
  where
    within : (p q : List ℕ) → Within 1 (p ++ q) (q ++ p)
    within p q [] l s = sub_empty (q ++ p)
    within p q (x ∷ []) l s = ⊎_elim (λ h. sub_trans h (sub_back q p)) (λ h. sub_trans h (sub_front q p)) (occurs_append p s)
    within p q (x ∷ y ∷ z) l s = absurd (omega arith)

not_same_pairs : ¬ Congruent 2 up down
not_same_pairs c = not_exchanged (c.0 up (omega arith) (sub_refl up))

-- so a shortest row that tells them apart has two letters
degree_of : Degree 9 2 up down
degree_of = (omega arith, λ k l. (λ c. below_two k c (dec_lt k 2), λ h. congruent_less (omega arith) same_letters))
  where
    below_two : (k : ℕ) → Congruent k up down → Dec (k < 2) → k < 2
    below_two k c (yes l) = l
    below_two k c (no l) = absurd (not_same_pairs (congruent_less (omega arith) c))

-- the last places are partners, though their end parts have different letters
partners_of : Partner ℕ_discrete (2 ∷ []) (1 ∷ [])
partners_of =
    next (right_none ℕ_discrete 2 ∙ sym (right_none ℕ_discrete 1)) (simp (stop_none ℕ_discrete) last)

-- the numbers in their order
below : Order {A = ℕ} ◌<◌
below = record { irreflexive = omega arith; transitive = λ h k. omega arith; total = λ {a} {b} n. either a b n (dec_lt a b) }
  where
    either : (a b : ℕ) → ¬ (a ≡ b) → Dec (a < b) → (a < b) ⊎ (b < a)
    either a b n (yes l) = inl l
    either a b n (no l) = inr (omega arith)

-- the first word that tells them apart
first_row : FirstTelling ◌<◌ up up down
first_row = (inl (sub_refl up, not_exchanged), λ z t n. others z t n (dec_le (length z) 1))
  where
    others : (z : List ℕ) → Telling z up down → ¬ (up ≡ z) → Dec (length z ≤ 1) → Earlier ◌<◌ up z
    others z (inl (s, m)) n (yes l) = absurd (m (same_letters.0 z l s))
    others z (inr (s, m)) n (yes l) = absurd (m (same_letters.1 z l s))
    others z (inl (s, m)) n (no l) = let h = sub_length s in absurd (n (sym (sub_whole s (omega arith))))
    others z (inr (s, m)) n (no l) =
        let h = sub_length s in
        let less : 1 < 2 = omega arith in
        rw (sub_whole s (omega arith)) (inr (refl, here less))

abbrev one : List ℕ
one = 1 ∷ []

abbrev two : List ℕ
two = 1 ∷ 1 ∷ []

-- single letters do not show how often a letter is there
form_of_two : IsForm ◌<◌ 1 two one
form_of_two = ((shorter, longer), λ v c n. others v (c.0 one (omega arith) (skip (sub_refl one))) n)
  where
    shorter : Within 1 two one
    shorter [] l s = sub_empty one
    shorter (x ∷ []) l s = ⊎_elim (λ h. h) (λ h. h) (occurs_append one s)
    shorter (x ∷ y ∷ z) l s = absurd (omega arith)

    longer : Within 1 one two
    longer z l s = skip s

    others : (v : List ℕ) → Sub one v → ¬ (one ≡ v) → Earlier ◌<◌ one v
    others v s n = go (dec_le (length v) 1)
      where
        go : Dec (length v ≤ 1) → Earlier ◌<◌ one v
        go (yes l) = let h = sub_length s in absurd (n (sub_whole s (omega arith)))
        go (no l) = inl (omega arith)

behind_the_first : after ℕ_discrete 1 (2 ∷ 1 ∷ 3 ∷ 1 ∷ []) ≡ 3 ∷ 1 ∷ []
unfolding after ℕ_discrete
behind_the_first = refl

right_of : right ℕ_discrete 1 (2 ∷ 1 ∷ 2 ∷ []) ≡ 2
unfolding right ℕ_discrete
right_of = refl

left_of : left ℕ_discrete (1 ∷ 2 ∷ 2 ∷ []) 1 ≡ 2
unfolding left right ℕ_discrete
left_of = refl
