-- The pass that drops letters, as a loop: what it keeps true, and what it leaves.
use Rattle.std.proofs.Common.{◌≡◌, ℕ, zero, suc, ◌+◌, ◌-◌, ◌<◌, ◌≤◌, List, [], ◌∷◌, ◌++◌, length, get_or, take, drop, set, sym, refl, ap, ◌∙◌, add-one, arith}
use native.Mathlib.Decide.{ℕ_discrete}
use Rattle.std.proofs.lemmas.List.{length-take-le, length-drop, take_more, take_all, take-append-drop, drop_more, drop-set, drop_all}
use Rattle.std.proofs.iter.runs.Lists.{same_Some, slice_get_within}
use Rattle.std.proofs.lemmas.Option.{slice_get-get_or}
use Rattle.words.specs.Steps.{Below, Spells, nothing, letter, right, left, rights, lefts, Ahead}
use Rattle.words.specs.Steps.{Climbs, top, step, NoneToDrop, Kept}
use Rattle.words.proofs.Coordinates.{lefts_at, left_bound}
use Rattle.words.proofs.Dropping.{dropping, Needed, needed?, Lean, Passed, pass_start, keep_step, drop_step}
use Rattle.words.proofs.Scans.{ahead_small}

-- ── Lean words ──

module _ {A : Type 0} (eq : (x y : A) → Dec (x ≡ y)) where
  pub lean_none : {k : ℕ} {w : List A} → Lean eq k w → NoneToDrop k w
  lean_none {k} h p a q e f = omega (arith, (dropping eq k p a q).0 f, h p a q e)

  pub none_lean : {k : ℕ} {w : List A} → NoneToDrop k w → Lean eq k w
  none_lean {k} h p a q e = go (needed? eq k p a q)
    where
      go : Dec (Needed eq k p a q) → Needed eq k p a q
      go (yes l) = l
      go (no n) = absurd (h p a q e ((dropping eq k p a q).1 (omega arith)))

-- ── The loop ──

climbs_less : {i j : ℕ} {ns : List ℕ} → i ≤ j → Climbs j ns → Climbs i ns
climbs_less l top = top
climbs_less l (step m h) = step (omega arith) h

pub lefts_length : (p w : List ℕ) → length (lefts ℕ_discrete p w) ≡ length w
lefts_length p [] = refl
lefts_length p (a ∷ w) = ap suc (lefts_length (p ++ a ∷ []) w)

-- the left coordinate at a place
left_at : (w : List ℕ) (i : ℕ) → i < length w → get_or (lefts ℕ_discrete [] w) i 0 ≡ left ℕ_discrete (take i w) (get_or w i 0)
left_at w i l =
    let cut : take i w ++ get_or w i 0 ∷ drop (i + 1) w ≡ w =
    ap (λ t. take i w ++ t) (sym (drop_more w i 0 l)) ∙ take-append-drop i w in
    let at = lefts_at ℕ_discrete [] (take i w) (get_or w i 0) (drop (i + 1) w) in
    rw (cut, length-take-le i w (omega arith)) at at

-- The pass over `w` has come down to place `i`; what it kept begins at `first`.
pub record Passing (k : ℕ) (w : List ℕ) (i first : ℕ) (vector places ranks behind : List ℕ) : Type 0 where
  pub above : i ≤ first
  pub within : first ≤ length w
  pub passed : Passed ℕ_discrete k w (take i w) (drop first ranks)
  pub ahead : Ahead vector (drop first ranks)
  pub coordinates : drop first behind ≡ rights ℕ_discrete (drop first ranks)
  pub spelled : Spells w (drop first places) (drop first ranks)
  pub climbing : Climbs i (drop first places)

pub passing_start : (k : ℕ) (w : List ℕ) {vector : List ℕ} (places ranks behind : List ℕ) → length places ≡ length w
    → length ranks ≡ length w → length behind ≡ length w → Ahead vector []
    → Passing k w (length w) (length w) vector places ranks behind
passing_start k w {vector} places ranks behind e f g h =
    let np = drop_all (length w) places (omega arith) in
    let nr = drop_all (length w) ranks (omega arith) in
    let nb = drop_all (length w) behind (omega arith) in
    record {
      above = omega arith;
      within = omega arith;
      passed = rw (nr, take_all (length w) w (omega arith)) (pass_start ℕ_discrete k w);
      ahead = rw nr h;
      coordinates = rw (nr, nb);
      spelled = rw (nr, np) nothing;
      climbing = rw np top;
    }

-- what the test of the loop compares: the coordinates of the place
module _ {k : ℕ} {w : List ℕ} {j first : ℕ} {vector places ranks behind : List ℕ} (i : ℕ) (here : i + 1 ≡ j)
    (h : Passing k w j first vector places ranks behind) (l : i < length w) (m : get_or w i 0 < length vector)
    {before : List ℕ} (e : before ≡ lefts ℕ_discrete [] w) where
  sum_is : get_or before i 0 + get_or vector (get_or w i 0) 0
      ≡ left ℕ_discrete (take i w) (get_or w i 0) + right ℕ_discrete (get_or w i 0) (drop first ranks)
  sum_is = omega (arith, ap (λ c. get_or c i 0) e, left_at w i l, h.ahead (get_or w i 0) m)

  front : Passed ℕ_discrete k w (take i w ++ get_or w i 0 ∷ []) (drop first ranks)
  front = rw (sym here, take_more w i 0 l) at h.passed

  pub passing_small : length ranks ≡ length w
      → (get_or before i 0 ≤ length w + 1) × (get_or vector (get_or w i 0) 0 ≤ length w + 1)
  passing_small f = (
    omega (
      arith,
      ap (λ c. get_or c i 0) e,
      left_at w i l,
      left_bound ℕ_discrete (take i w) (get_or w i 0),
      length-take-le i w (omega arith),
    ),
    ahead_small vector (drop first ranks) (get_or w i 0) (length w) m (omega (arith, length-drop first ranks)) h.ahead,
  )

  pub passing_drop : k + 1 < get_or before i 0 + get_or vector (get_or w i 0) 0 → Passing k w i first vector places ranks behind
  passing_drop n = record {
    above = omega (arith, h.above);
    within = h.within;
    passed = drop_step ℕ_discrete (get_or w i 0) front (λ t. omega (arith, sum_is));
    ahead = h.ahead;
    coordinates = h.coordinates;
    spelled = h.spelled;
    climbing = climbs_less (omega arith) h.climbing;
  }

  pub passing_keep : (at c : ℕ) (after : List ℕ) → at + 1 ≡ first → length places ≡ length w → length ranks ≡ length w
      → length behind ≡ length w
      → ((q : List ℕ) → Ahead vector q → (c ≡ right ℕ_discrete (get_or w i 0) q) × Ahead after (get_or w i 0 ∷ q))
      → get_or before i 0 + get_or vector (get_or w i 0) 0 ≤ k + 1
      → Passing k w i at after (set places at i) (set ranks at (get_or w i 0)) (set behind at c)
  passing_keep at c after next f g o put n =
      let np : drop at (set places at i) ≡ i ∷ drop first places =
      drop-set places at i (omega (arith, h.within)) ∙ ap (λ j. i ∷ drop j places) next in
      let nr : drop at (set ranks at (get_or w i 0)) ≡ get_or w i 0 ∷ drop first ranks =
      drop-set ranks at (get_or w i 0) (omega (arith, h.within)) ∙ ap (λ j. get_or w i 0 ∷ drop j ranks) next in
      let nb : drop at (set behind at c) ≡ c ∷ drop first behind =
      drop-set behind at c (omega (arith, h.within)) ∙ ap (λ j. c ∷ drop j behind) next in
      record {
        above = omega (arith, h.above);
        within = omega (arith, h.within);
        passed = rw nr (keep_step ℕ_discrete front (omega (arith, sum_is)));
        ahead = rw nr (put (drop first ranks) h.ahead).1;
        coordinates = rw (nr, nb) (cc ((put (drop first ranks) h.ahead).0, h.coordinates));
        spelled = rw (np, nr) (letter (slice_get-get_or w i 0 l) h.spelled);
        climbing = rw np (step {i = i} {n = i} (omega arith) (rw (sym here, add-one) at h.climbing));
      }

pub passing_end : {k : ℕ} {w : List ℕ} {i first : ℕ} {vector places ranks behind : List ℕ}
    → Passing k w i first vector places ranks behind → i ≤ 0
    → Kept k w (drop first places) (drop first ranks) (drop first behind)
passing_end {k} {w} {i} {first} {vector} {places} {ranks} {behind} g l = end (rw all at g)
  where
    all : i ≡ 0
    all = omega arith

    end : Passing k w 0 first vector places ranks behind
        → Kept k w (drop first places) (drop first ranks) (drop first behind)
    end h = record {
      climbing = h.climbing;
      spelled = h.spelled;
      congruent = h.passed.congruent;
      lean = lean_none ℕ_discrete h.passed.needed;
      coordinates = h.coordinates;
    }

-- ── What was kept ──

-- the part of a list from `first` on
pub rest_part : (n first : ℕ) (xs : List ℕ) → length xs ≡ n → take (n - first) (drop first xs) ≡ drop first xs
rest_part n first xs e = take_all (n - first) (drop first xs) (omega (arith, length-drop first xs))

pub spelled_below : {bound : ℕ} {w places ranks : List ℕ} → Below bound w → Spells w places ranks → Below bound ranks
spelled_below b nothing i l = absurd (omega arith)
spelled_below {bound} {w} b (letter {n = n} {a = a} e h) zero l =
    let inside = slice_get_within w n a e in
    let same : get_or w n 0 ≡ a = same_Some (get_or w n 0) a (sym (slice_get-get_or w n 0 inside) ∙ e) in
    omega (arith, b n inside)
spelled_below b (letter e h) (suc i) l = spelled_below b h i (omega arith)

pub rest_below : {bound k : ℕ} {w places behind : List ℕ} (n first : ℕ) (ranks : List ℕ) → length ranks ≡ n → Below bound w
    → Kept k w places (drop first ranks) behind → Below bound (take (n - first) (drop first ranks))
rest_below n first ranks e b h = rw (rest_part n first ranks e) (spelled_below b h.spelled)
