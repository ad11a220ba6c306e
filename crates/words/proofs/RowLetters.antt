-- The first telling row of two words of ranks, letter by letter, as it is written.
use Rattle.std.proofs.Common.{◌≡◌, ℕ, suc, ◌+◌, ◌-◌, ◌<◌, ◌≤◌, ◌⊎◌, List, [], ◌∷◌, ◌++◌, length, take, drop, set, refl, ◌∙◌, inl, inr, append_assoc, arith}
use native.Mathlib.Decide.{dec_lt, ℕ_discrete}
use Rattle.std.proofs.lemmas.List.{take_more_set}
use Rattle.words.specs.Words.{Sub, skip, keep, Congruent, Tells, Telling, Order, FirstTelling}
use Rattle.words.specs.Degrees.{Degree, after, Follow, both, first_only, second_only, neither}
use Rattle.words.specs.Reading.{end_part}
use Rattle.words.specs.RowSteps.{cap}
use Rattle.words.specs.Rows.{FirstLetter}
use Rattle.words.specs.Separating.{TellsOn}
use Rattle.words.specs.declared.told.Side.{Side}
use Rattle.words.specs.declared.told.Side.TheVariants.{Left, Right}
use Rattle.words.specs.Stairs.{Ends}
use Rattle.words.specs.Steps.{Below}
use Rattle.words.proofs.Subsequences.{sub_trans, first_occurrence, congruent_zero}
use Rattle.words.proofs.EndParts.{tail_sub}
use Rattle.words.proofs.Places.{drop_tail}
use Rattle.words.proofs.Degrees.{letters_congruent}
use Rattle.words.proofs.FirstRows.{follow_behind, follow_agrees, first_letter, first_more}

-- ── The first letter ──

-- a letter says less than the degree, or not less
abbrev pub SaysLess : ℕ → ℕ → List ℕ → List ℕ → ℕ → Type 0
SaysLess K degree u v x = (d : ℕ) × Follow ℕ_discrete K x u v d × (d < degree)

abbrev pub SaysMore : ℕ → ℕ → List ℕ → List ℕ → ℕ → Type 0
SaysMore K degree u v x = (d : ℕ) × Follow ℕ_discrete K x u v d × (degree ≤ d)

-- the letters of an end part are letters of the word
below_occurs : {n x : ℕ} {w : List ℕ} → Below n w → Sub (x ∷ []) w → x < n
below_occurs b (skip s) = below_occurs (λ i l. b (suc i) (omega arith)) s
below_occurs b (keep s) = b 0 (omega arith)

below_end : {n x : ℕ} (i : ℕ) (w : List ℕ) → Below n w → Sub (x ∷ []) (drop i w) → x < n
below_end i w b s = below_occurs b (sub_trans s (tail_sub (drop_tail i w)))

-- words with a degree below the cap have a letter that says less
module _ {K degree n : ℕ} {u v : List ℕ} (left : (x : ℕ) → Sub (x ∷ []) u → x < n) (right : (x : ℕ) → Sub (x ∷ []) v → x < n)
    (b : degree < K) (d : Degree K degree u v) where
  some_letter : ((x : ℕ) → x < n → SaysMore K degree u v x) → ⊥
  some_letter f =
      let c = letters_congruent ℕ_discrete (λ y. (all y (dec_lt y n)).0) b (λ y. (all y (dec_lt y n)).1) (λ y. (all y (dec_lt y n)).2) in
      omega (arith, (d.1 degree b).0 c)
    where
      all : (x : ℕ) → Dec (x < n) → SaysMore K degree u v x
      all x (yes l) = f x l
      all x (no m) = (K, neither (λ s. m (left x s)) (λ s. m (right x s)), omega arith)

-- so a letter before which all say more is a letter of the words
pub letter_inside : {K degree n : ℕ} (i j : ℕ) (s t : List ℕ) → Below n s → Below n t → degree < K → Degree K degree (drop i s) (drop j t) → (x : ℕ)
    → ((y : ℕ) → y < x → SaysMore K degree (drop i s) (drop j t) y) → x < n
letter_inside {K} {degree} {n} i j s t left right b d x tried = go (dec_lt x n)
  where
    go : Dec (x < n) → x < n
    go (yes l) = l
    go (no m) = absurd (some_letter (λ y o. below_end i s left o) (λ y o. below_end j t right o) b d (λ y l. tried y (omega arith)))

-- the letters before the next one, of which the last has just been asked
pub tried_more : {K degree x d : ℕ} {u v : List ℕ} → Follow ℕ_discrete K x u v d → degree ≤ d
    → ((y : ℕ) → y < x → SaysMore K degree u v y) → (y : ℕ) → y < x + 1 → SaysMore K degree u v y
tried_more {K} {degree} {x} {d} {u} {v} f l tried y b = go (dec_lt y x)
  where
    go : Dec (y < x) → SaysMore K degree u v y
    go (yes h) = tried y h
    go (no h) = let e : y ≡ x = omega arith in rw e (d, f, l)

-- ── The row ──

-- numbers in their order
pub numbers : Order {A = ℕ} ◌<◌
numbers = record { irreflexive = omega arith; transitive = λ h k. omega arith; total = λ {a} {b} n. either a b n (dec_lt a b) }
  where
    either : (a b : ℕ) → ¬ (a ≡ b) → Dec (a < b) → (a < b) ⊎ (b < a)
    either a b n (yes l) = inl l
    either a b n (no l) = inr (omega arith)

-- `at` letters of the first row of `s` and `t`, which has `n`, are written, and every first row of what was reached completes
-- them
pub record Written (s t : List ℕ) (n at : ℕ) (row : List ℕ) (e : Ends) : Type 0 where
  pub left_word : e.left.word ≡ s
  pub right_word : e.right.word ≡ t
  pub degree : Degree (cap e.right.word) (n - at) (end_part e.left) (end_part e.right)
  pub whole : (z : List ℕ) → length z ≡ n - at → FirstTelling ◌<◌ z (end_part e.left) (end_part e.right)
      → FirstTelling ◌<◌ (take at row ++ z) s t
  pub left_tells : (z : List ℕ) → Tells z (end_part e.left) (end_part e.right) → Tells (take at row ++ z) s t
  pub right_tells : (z : List ℕ) → Tells z (end_part e.right) (end_part e.left) → Tells (take at row ++ z) t s

pub written_none : (n : ℕ) (row : List ℕ) (e : Ends) → e.left.at ≡ 0 → e.right.at ≡ 0
    → Degree (cap e.right.word) n e.left.word e.right.word → Written e.left.word e.right.word n 0 row e
written_none n row e a b d = record {
  left_word = refl;
  right_word = refl;
  degree = let f : n - 0 ≡ n = omega arith in rw (a, b, f) d;
  whole = λ z l f. rw (a, b) at f;
  left_tells = λ z t. rw (a, b) at t;
  right_tells = λ z t. rw (a, b) at t;
}

-- a row behind a letter that both words have
tells_behind : {x : ℕ} {z s t : List ℕ} → Sub (x ∷ []) s → Sub (x ∷ []) t
    → Tells z (after ℕ_discrete x s) (after ℕ_discrete x t) → Tells (x ∷ z) s t
tells_behind p q (i, n) = ((first_occurrence ℕ_discrete).1 (p, i), λ j. n ((first_occurrence ℕ_discrete).0 j).1)

-- if a row is to have two letters more, both words have the first of them, and behind it the degree is one less
pub letter_both : (K n : ℕ) (u v : List ℕ) (x : ℕ) → 1 < n → Degree K n u v → FirstLetter K n u v x
    → Sub (x ∷ []) u × Sub (x ∷ []) v × Degree K (n - 1) (after ℕ_discrete x u) (after ℕ_discrete x v)
letter_both K n u v x l d f = go (n - 2) (omega arith) f.says
  where
    go : (r : ℕ) → n ≡ suc (suc r) → (d : ℕ) × Follow ℕ_discrete K x u v d × (d < n)
        → Sub (x ∷ []) u × Sub (x ∷ []) v × Degree K (n - 1) (after ℕ_discrete x u) (after ℕ_discrete x v)
    go r e (c, g, b) =
        let (p, q, h) = follow_behind ℕ_discrete {r = r} (rw e at d) g (omega arith) in
        let f : n - 1 ≡ suc r = omega arith in
        (p, q, rw f h)

-- and a first row behind it makes a first row
letter_first : (K n : ℕ) (u v : List ℕ) (x : ℕ) (z : List ℕ) → 1 < n → Degree K n u v → FirstLetter K n u v x
    → length z ≡ n - 1 → FirstTelling ◌<◌ z (after ℕ_discrete x u) (after ℕ_discrete x v) → FirstTelling ◌<◌ (x ∷ z) u v
letter_first K n u v x z l d f m g =
    let r = n - 2 in
    let k : suc r < K = omega (arith, d.0) in
    first_more numbers ℕ_discrete {r = r} ((d.1 (suc r) k).1 (omega arith)) (omega arith) (letter_both K n u v x l d f).0 g
    (λ y b o. agrees y k (f.before y b) o)
  where
    agrees : (y : ℕ) → suc (n - 2) < K → (d : ℕ) × Follow ℕ_discrete K y u v d × (n ≤ d) → Sub (y ∷ []) u
        → Congruent (suc (n - 2)) (after ℕ_discrete y u) (after ℕ_discrete y v)
    agrees y k (c, h, b) o = follow_agrees ℕ_discrete k h (omega arith) o

-- the letter that was found occurs in both end parts, and it goes on behind it
module _ {s t : List ℕ} {n at : ℕ} {row : List ℕ} {e : Ends} {x : ℕ} (l : at + 1 < n) (w : Written s t n at row e)
    (f : FirstLetter (cap e.right.word) (n - at) (end_part e.left) (end_part e.right) x) where
  pub written_both : Sub (x ∷ []) (end_part e.left) × Sub (x ∷ []) (end_part e.right)
      × Degree (cap e.right.word) (n - at - 1) (after ℕ_discrete x (end_part e.left)) (after ℕ_discrete x (end_part e.right))
  written_both = letter_both _ (n - at) _ _ x (omega arith) w.degree f

  pub written_more : (e' : Ends) → n ≤ length row → e'.left.word ≡ e.left.word → e'.right.word ≡ e.right.word
      → end_part e'.left ≡ after ℕ_discrete x (end_part e.left) → end_part e'.right ≡ after ℕ_discrete x (end_part e.right)
      → Written s t n (at + 1) (set row at x) e'
  written_more e' room left_same right_same le re = record {
    left_word = left_same ∙ w.left_word;
    right_word = right_same ∙ w.right_word;
    degree = let k : n - (at + 1) ≡ n - at - 1 = omega arith in rw (le, re, right_same, k) b.2;
    whole = λ z m g. rw (row_is z) (w.whole (x ∷ z) (omega arith) (letter_first _ (n - at) _ _ x z (omega arith) w.degree f (omega arith) (rw (le, re) at g)));
    left_tells = λ z g. rw (row_is z) (w.left_tells (x ∷ z) (tells_behind b.0 b.1 (rw (le, re) at g)));
    right_tells = λ z g. rw (row_is z) (w.right_tells (x ∷ z) (tells_behind b.1 b.0 (rw (le, re) at g)));
  }
    where
      b : Sub (x ∷ []) (end_part e.left) × Sub (x ∷ []) (end_part e.right)
          × Degree (cap e.right.word) (n - at - 1) (after ℕ_discrete x (end_part e.left)) (after ℕ_discrete x (end_part e.right))
      b = written_both

      row_is : (z : List ℕ) → take (at + 1) (set row at x) ++ z ≡ take at row ++ x ∷ z
      row_is z = rw (take_more_set row at x (omega arith)) (append_assoc (take at row) (x ∷ []) z)

-- ── The last letter ──

-- Words of degree 1: the letter that was found occurs in one of them only,
pub last_telling : (K : ℕ) (u v : List ℕ) (x : ℕ) → 1 < K → FirstLetter K 1 u v x
    → (Sub (x ∷ []) u → Tells (x ∷ []) u v) × (¬ Sub (x ∷ []) u → Tells (x ∷ []) v u)
last_telling K u v x l f = go f.says
  where
    cases : {d : ℕ} → Follow ℕ_discrete K x u v d → d < 1
        → (Sub (x ∷ []) u → Tells (x ∷ []) u v) × (¬ Sub (x ∷ []) u → Tells (x ∷ []) v u)
    cases (both o q d) b =
        absurd (omega (arith, (d.1 0 (omega arith)).0 (congruent_zero (after ℕ_discrete x u) (after ℕ_discrete x v))))
    cases (first_only o n) b = (λ i. (i, n), λ i. absurd (i o))
    cases (second_only n o) b = (λ i. absurd (n i), λ i. (o, n))
    cases (neither n m) b = absurd (omega arith)

    go : (d : ℕ) × Follow ℕ_discrete K x u v d × (d < 1)
        → (Sub (x ∷ []) u → Tells (x ∷ []) u v) × (¬ Sub (x ∷ []) u → Tells (x ∷ []) v u)
    go (d, g, b) = cases g b

-- and it is their first row,
last_first : (K : ℕ) (u v : List ℕ) (x : ℕ) → FirstLetter K 1 u v x → Telling (x ∷ []) u v → FirstTelling ◌<◌ (x ∷ []) u v
last_first K u v x f t = first_letter numbers ℕ_discrete t (λ y b. none y (f.before y b))
  where
    cases : {d : ℕ} (y : ℕ) → Follow ℕ_discrete K y u v d → 1 ≤ d → ¬ Telling (y ∷ []) u v
    cases y (both o q d) b (inl (i, n)) = n q
    cases y (both o q d) b (inr (i, n)) = n o
    cases y (first_only o n) b t = absurd (omega arith)
    cases y (second_only n o) b t = absurd (omega arith)
    cases y (neither n m) b (inl (i, k)) = n i
    cases y (neither n m) b (inr (i, k)) = m i

    none : (y : ℕ) → (d : ℕ) × Follow ℕ_discrete K y u v d × (1 ≤ d) → ¬ Telling (y ∷ []) u v
    none y (d, g, b) = cases y g b

-- which ends the row.
pub written_last : {s t : List ℕ} {n at : ℕ} {row : List ℕ} {e : Ends} {x : ℕ} (g : Side) → at + 1 ≡ n → n ≤ length row
    → Written s t n at row e → FirstLetter (cap e.right.word) 1 (end_part e.left) (end_part e.right) x
    → TellsOn g (x ∷ []) (end_part e.left) (end_part e.right)
    → FirstTelling ◌<◌ (take n (set row at x)) s t × TellsOn g (take n (set row at x)) s t
written_last {s} {t} {n} {at} {row} {e} {x} g l room w f h = rw row_end (first (telling g h), side g h)
  where
    row_end : take n (set row at x) ≡ take at row ++ x ∷ []
    row_end = rw (← l) (take_more_set row at x (omega arith))

    telling : (g : Side) → TellsOn g (x ∷ []) (end_part e.left) (end_part e.right) → Telling (x ∷ []) (end_part e.left) (end_part e.right)
    telling Left h = inl h
    telling Right h = inr h

    first : Telling (x ∷ []) (end_part e.left) (end_part e.right) → FirstTelling ◌<◌ (take at row ++ x ∷ []) s t
    first h = w.whole (x ∷ []) (omega arith) (last_first _ _ _ x f h)

    side : (g : Side) → TellsOn g (x ∷ []) (end_part e.left) (end_part e.right) → TellsOn g (take at row ++ x ∷ []) s t
    side Left h = w.left_tells (x ∷ []) h
    side Right h = w.right_tells (x ∷ []) h
