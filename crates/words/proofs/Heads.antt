-- The places behind the first occurrences of the letters in an end part of a word: a letter that is put in front changes
-- its own, and passing it brings back what was known before.
use Rattle.std.proofs.Common.{◌≡◌, ℕ, suc, ◌+◌, ◌<◌, ◌≤◌, ◌≢◌, List, [], ◌∷◌, length, get_or, drop, set, replicate, sym, refl, ap, ◌∙◌, add-one, arith, length-drop, length-set, drop-cons, get_or-set_other, get_or-set_same}
use native.Mathlib.Decide.{dec_lt, ℕ_discrete}
use lib.ListN.{length-replicate}
use lib.Seq.{drop-length}
use Rattle.words.specs.Words.{Sub, skip}
use Rattle.words.specs.Steps.{Below}
use Rattle.words.specs.Degrees.{after}
use Rattle.words.specs.Reading.{Behind, absent, behind}
use Rattle.words.specs.Reads.{Reads}
use Rattle.words.specs.declared.reading.Reading.TheInside.{Inside}
use Rattle.words.proofs.Subsequences.{length_around, not_sub_nil, strip_other, occurs_at, after_same, after_other, first_cut}
use Rattle.words.proofs.Paths.{get_or_zeros}

-- what follows a letter is shorter
after_shorter : (x : ℕ) (w : List ℕ) → Sub (x ∷ []) w → length (after ℕ_discrete x w) < length w
after_shorter x w o =
    let (u, e, none) = first_cut ℕ_discrete o in
    omega (arith, ap length e, length_around u x (after ℕ_discrete x w))

-- the end part as its first letter and the rest
front : (w : List ℕ) (i : ℕ) → i < length w → drop i w ≡ get_or w i 0 ∷ drop (suc i) w
front w i l = drop-cons w i 0 l

pub behind_same : (w : List ℕ) (i : ℕ) → i < length w → Behind w i (get_or w i 0) (suc i)
behind_same w i l =
    behind (omega arith) l (rw (front w i l) (occurs_at [] (get_or w i 0) (drop (suc i) w)))
    (rw (front w i l) (after_same ℕ_discrete (drop (suc i) w) refl))

pub behind_other : {n : ℕ} (w : List ℕ) (i x : ℕ) → i < length w → ¬ (x ≡ get_or w i 0) → Behind w (suc i) x n → Behind w i x n
behind_other w i x l ne (absent o) = absent (λ s. o (strip_other ne (rw (front w i l) at s)))
behind_other w i x l ne (behind {j = j} h k o e) =
    behind (omega arith) k (rw (front w i l) (skip o)) (rw (front w i l) (after_other ℕ_discrete (drop (suc i) w) ne ∙ e))

pub behind_past : {n : ℕ} (w : List ℕ) (i x : ℕ) → i < length w → ¬ (x ≡ get_or w i 0) → Behind w i x n → Behind w (suc i) x n
behind_past w i x l ne (absent o) = absent (λ s. o (rw (front w i l) (skip s)))
behind_past w i x l ne (behind {j = j} h k o e) =
    let p = strip_other ne (rw (front w i l) at o) in
    let f : after ℕ_discrete x (drop (suc i) w) ≡ drop (suc j) w =
    sym (after_other ℕ_discrete (drop (suc i) w) ne) ∙ rw (front w i l) at e in
    let later : suc i ≤ j =
    omega (arith, after_shorter x (drop (suc i) w) p, ap length f, length-drop (suc i) w, length-drop (suc j) w) in
    behind later k p f

-- ── One place to the left ──

pub reads_more : (r r' : Inside) → r'.word.now ≡ r.word.now → r'.at + 1 ≡ r.at
    → r'.heads.now ≡ set r.heads.now (get_or r.word.now r'.at 0) (r'.at + 1)
    → r'.links.now ≡ set r.links.now r'.at (get_or r.heads.now (get_or r.word.now r'.at 0) 0)
    → Reads r → Reads r'
reads_more r r' same e h k s = record {
  few = rw same s.few;
  inside = rw same (omega (arith, s.inside));
  letters = rw (same, h, length-set) s.letters;
  room = rw (same, k, length-set) s.room;
  heads = λ x. rw (same, h) (head x (ℕ_discrete x a));
  links = λ j low high. rw (same, k) (link j low (rw same at high) (dec_lt i j));
}
  where
    w : List ℕ
    w = r.word.now

    i : ℕ
    i = r'.at

    a : ℕ
    a = get_or w i 0

    inside : i < length w
    inside = omega (arith, s.inside)

    before : (x : ℕ) → Behind w (suc i) x (get_or r.heads.now x 0)
    before x = let f : suc i ≡ r.at = omega arith in rw f (s.heads x)

    head : (x : ℕ) → Dec (x ≡ a) → Behind w i x (get_or (set r.heads.now a (i + 1)) x 0)
    head x (yes f) = rw (f, get_or-set_same r.heads.now a (i + 1) 0 (s.letters i inside), add-one) (behind_same w i inside)
    head x (no n) = rw (get_or-set_other r.heads.now a x (i + 1) 0 n) (behind_other w i x inside n (before x))

    link : (j : ℕ) → i ≤ j → j < length w → Dec (i < j)
        → Behind w (suc j) (get_or w j 0) (get_or (set r.links.now i (get_or r.heads.now a 0)) j 0)
    link j low high (yes b) =
        let ne : j ≢ i = λ f. omega (arith, f) in
        rw (get_or-set_other r.links.now i j (get_or r.heads.now a 0) 0 ne) (s.links j (omega arith) high)
    link j low high (no b) =
        let f : j ≡ i = omega arith in
        let room : i < length r.links.now = omega (arith, s.room) in
        rw (f, get_or-set_same r.links.now i (get_or r.heads.now a 0) 0 room) (before a)

-- ── At the end, and one place to the right ──

pub reads_end : (r : Inside) (n : ℕ) → length r.word.now ≤ 4096 → Below n r.word.now → length r.word.now ≤ length r.links.now
    → r.at ≡ length r.word.now → r.heads.now ≡ replicate n 0 → Reads r
reads_end r n few below room e h = record {
  few = few;
  inside = omega arith;
  letters = rw (h, length-replicate {A = ℕ} n 0) below;
  room = room;
  heads = λ x. rw (h, get_or_zeros n x, e) (nothing x);
  links = λ k low high. absurd (omega arith);
}
  where
    nothing : (x : ℕ) → Behind r.word.now (length r.word.now) x 0
    nothing x = absent (λ s. not_sub_nil (rw (drop-length r.word.now) at s))

pub reads_pass : (r r' : Inside) → r'.word.now ≡ r.word.now → r'.at ≡ r.at + 1 → r.at < length r.word.now
    → r'.heads.now ≡ set r.heads.now (get_or r.word.now r.at 0) (get_or r.links.now r.at 0)
    → r'.links.now ≡ r.links.now → Reads r → Reads r'
reads_pass r r' same e l h k s = record {
  few = rw same s.few;
  inside = rw same (omega arith);
  letters = rw (same, h, length-set) s.letters;
  room = rw (same, k) s.room;
  heads = λ x. let f : r'.at ≡ suc r.at = omega arith in rw (same, h, f) (head x (ℕ_discrete x a));
  links = λ j low high. rw (same, k) (s.links j (omega arith) (rw same at high));
}
  where
    w : List ℕ
    w = r.word.now

    i : ℕ
    i = r.at

    a : ℕ
    a = get_or w i 0

    head : (x : ℕ) → Dec (x ≡ a) → Behind w (suc i) x (get_or (set r.heads.now a (get_or r.links.now i 0)) x 0)
    head x (yes f) =
        rw (f, get_or-set_same r.heads.now a (get_or r.links.now i 0) 0 (s.letters i l)) (s.links i (omega arith) l)
    head x (no n) = rw (get_or-set_other r.heads.now a x (get_or r.links.now i 0) 0 n) (behind_past w i x l n (s.heads x))

-- the place behind a letter that occurs
pub head_occurs : {n i x : ℕ} {w : List ℕ} → Sub (x ∷ []) (drop i w) → Behind w i x n
    → (i < n) × (n ≤ length w) × (after ℕ_discrete x (drop i w) ≡ drop n w)
head_occurs o (absent n) = absurd (n o)
head_occurs o (behind h k p e) = (omega arith, k, e)
