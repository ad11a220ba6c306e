-- The vector over the ranks: what one place changes in it, and the two loops that write the coordinates of a word.
use Rattle.std.proofs.Common.{◌≡◌, ℕ, ◌+◌, ◌<◌, ◌≤◌, min, List, [], ◌∷◌, map, reverse, length, get_or, take, drop, set, sym, refl, ap, ◌∙◌, arith}
use native.Mathlib.Decide.{ℕ_discrete}
use mathlib.Core.List.{reverse-append}
use Rattle.std.proofs.lemmas.List.{get_or-set_same, get_or-set_other, get_or-map, length-map, length-set, length-take, length-drop, length-reverse, drop_more, drop-set, take_more, take_more_set}
use Rattle.words.specs.Steps.{right, left, rights, lefts, Ahead}
use Rattle.words.proofs.Coordinates.{right_none, right_same, right_other, right_bound, lefts_append}

-- ── One place ──

-- what a place of the rank `a` makes of the vector
abbrev pub raised : List ℕ → ℕ → List ℕ
raised v a = set (map (λ x. min x (get_or v a 0 + 1)) v) a (get_or v a 0 + 1)

pub ahead_none : (v : List ℕ) → ((x : ℕ) → x < length v → get_or v x 0 ≡ 1) → Ahead v []
ahead_none v h x l = h x l ∙ sym (right_none ℕ_discrete x)

pub ahead_more : (v q : List ℕ) (a : ℕ) → a < length v → Ahead v q → Ahead (raised v a) (a ∷ q)
ahead_more v q a l h x m = go (ℕ_discrete x a)
  where
    most : ℕ
    most = get_or v a 0 + 1

    lowered : List ℕ
    lowered = map (λ x. min x most) v

    inside : x < length v
    inside = omega (arith, length-set lowered a most, length-map v (λ x. min x most))

    go : Dec (x ≡ a) → get_or (raised v a) x 0 ≡ right ℕ_discrete x (a ∷ q)
    go (yes e) =
        let here = get_or-set_same lowered a most 0 (omega (arith, length-map v (λ x. min x most))) in
        rw e (omega (arith, h a l, right_same ℕ_discrete {a = a} q refl))
    go (no n) =
        omega (
          arith,
          get_or-set_other lowered a x most 0 n,
          get_or-map (λ x. min x most) v x 0 0 inside,
          h x inside,
          h a l,
          right_other ℕ_discrete q n,
        )

-- the coordinate of the next place is at most one above the number of places that were seen
pub ahead_small : (v q : List ℕ) (a n : ℕ) → a < length v → length q ≤ n → Ahead v q → get_or v a 0 ≤ n + 1
ahead_small v q a n l m h = omega (arith, h a l, right_bound ℕ_discrete a q)

-- ── From the right ──

-- The places from `i` on were seen: the vector looks at them, and their coordinates are written.
pub record SeenRight (word : List ℕ) (i : ℕ) (vector out : List ℕ) : Type 0 where
  pub ahead : Ahead vector (drop i word)
  pub written : drop i out ≡ rights ℕ_discrete (drop i word)

pub right_step : {word vector out : List ℕ} {j : ℕ} (i c : ℕ) (after : List ℕ) → i + 1 ≡ j → SeenRight word j vector out
    → i < length word → length out ≡ length word
    → ((q : List ℕ) → Ahead vector q → (c ≡ right ℕ_discrete (get_or word i 0) q) × Ahead after (get_or word i 0 ∷ q))
    → SeenRight word i after (set out i c)
right_step {word} {vector} {out} i c after next g l e f =
    let h = rw (sym next) at g in
    let (same, ahead) = f (drop (i + 1) word) h.ahead in
    record {
      ahead = rw (drop_more word i 0 l) ahead;
      written =
          drop-set out i c (omega arith)
          ∙ (cc (same, h.written) ∙ ap (rights ℕ_discrete) (sym (drop_more word i 0 l)));
    }

pub right_small : {word vector out : List ℕ} (i a : ℕ) → SeenRight word i vector out → a < length vector
    → get_or vector a 0 ≤ length word + 1
right_small {word} {vector} i a h l =
    ahead_small vector (drop i word) a (length word) l (omega (arith, length-drop i word)) h.ahead

-- ── From the left ──

-- The places before `i` were seen, the vector looks at them from behind, and their coordinates are written.
pub record SeenLeft (word : List ℕ) (i : ℕ) (vector out : List ℕ) : Type 0 where
  pub ahead : Ahead vector (reverse (take i word))
  pub written : take i out ≡ lefts ℕ_discrete [] (take i word)

pub left_step : {word vector out : List ℕ} (i c : ℕ) (after : List ℕ) → SeenLeft word i vector out → i < length word
    → length out ≡ length word
    → ((q : List ℕ) → Ahead vector q → (c ≡ right ℕ_discrete (get_or word i 0) q) × Ahead after (get_or word i 0 ∷ q))
    → SeenLeft word (i + 1) after (set out i c)
unfolding left
left_step {word} {vector} {out} i c after h l e f =
    let (same, ahead) = f (reverse (take i word)) h.ahead in
    record {
      ahead = rw (take_more word i 0 l, reverse-append (take i word) (get_or word i 0 ∷ [])) ahead;
      written =
          take_more_set out i c (omega arith)
          ∙ (cc (same, h.written) ∙ sym (lefts_append ℕ_discrete [] (take i word) (get_or word i 0 ∷ []))
          ∙ ap (lefts ℕ_discrete []) (sym (take_more word i 0 l)));
    }

pub left_small : {word vector out : List ℕ} (i a : ℕ) → SeenLeft word i vector out → a < length vector
    → get_or vector a 0 ≤ length word + 1
left_small {word} {vector} i a h l =
    ahead_small vector (reverse (take i word)) a (length word) l
    (omega (arith, length-reverse (take i word), length-take i word)) h.ahead
