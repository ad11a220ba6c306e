-- The path to a place while a word is read from right to left, which has for each depth the place above; the siblings of the
-- places; and the partners of the places of another word.
use Rattle.std.specs.Bool.{then_some}
use Rattle.std.proofs.lemmas.Bool.{leb-true, leb-false}
use Rattle.std.proofs.Common.{Bool, true, false, leb, ◌∙◌, Option, Some, None, ◌≡◌, ℕ, zero, suc, ◌+◌, ◌<◌, ◌≤◌, ◌≢◌, List, length, get_or, set, replicate, sym, refl, add-one, arith, length-set, get_or-set_other, get_or-set_same}
use native.Mathlib.Decide.{dec_lt, ℕ_discrete}
use lib.ListN.{length-replicate}
use Rattle.words.specs.Places.{Paired, depth, StopsAt, Above, Sibling}
use Rattle.words.specs.RowSteps.{Found, nowhere, found, Finds, held, Siblings, Partners, PartnersFrom}
use Rattle.words.specs.Paths.{Leads, Turn}
use Rattle.words.specs.declared.tree.Path.{Path}
use Rattle.words.proofs.Places.{depth_end, depth_step, depth_bound, stops_here, stops_before, stops_depth, above_inside}
use Rattle.words.proofs.Places.{paired_end, paired_depth, paired_above, paired_sibling, paired_child}

pub get_or_zeros : (n q : ℕ) → ◌≡◌ {A = ℕ} (get_or (replicate n 0) q 0) 0
get_or_zeros zero q = refl
get_or_zeros (suc n) zero = refl
get_or_zeros (suc n) (suc q) = get_or_zeros n q

-- ── The path ──

-- a place where one stops is the only one
pub stops_one : {k i j l : ℕ} {w : List ℕ} → StopsAt ℕ_discrete w k i j → StopsAt ℕ_discrete w k i l → j ≡ l
stops_one {k} {i} {j} {l} {w} s r = go (dec_lt j l) (dec_lt l j)
  where
    go : Dec (j < l) → Dec (l < j) → j ≡ l
    go (yes h) m = absurd (omega (arith, r.past j s.from h, s.low))
    go (no n) (yes h) = absurd (omega (arith, s.past l r.from h, r.low))
    go (no n) (no m) = omega arith

pub path_start : (w old : List ℕ) (p : Path) → length w ≤ 4096 → length w < length old → p.places.now ≡ set old 0 (length w) → p.depth ≡ 0
    → Leads w (length w) p
path_start w old p f l e z = record {
  few = f;
  room = rw e (simp length-set l);
  depth_is = z ∙ sym (depth_end ℕ_discrete w);
  stops = λ d h. stops d (omega (arith, depth_end ℕ_discrete w));
}
  where
    stops : (d : ℕ) → d ≡ 0 → StopsAt ℕ_discrete w d (length w) (get_or p.places.now d 0)
    stops d f =
        rw (e, f, get_or-set_same old 0 (length w) 0 (omega arith)) (stops_here ℕ_discrete (omega arith) (omega (arith, depth_end ℕ_discrete w)))

module _ (w : List ℕ) (i : ℕ) (p : Path) (l : i < length w) (s : Leads w (i + 1) p) where
  next : suc i ≡ i + 1
  next = omega arith

  below : p.depth ≡ depth ℕ_discrete w (suc i)
  below = rw next s.depth_is

  stop : (d : ℕ) → d ≤ p.depth → StopsAt ℕ_discrete w d (suc i) (get_or p.places.now d 0)
  stop d h = let low : d ≤ depth ℕ_discrete w (i + 1) = omega (arith, s.depth_is) in rw next (s.stops d low)

  -- the path has room for the depth of the place `i`
  pub path_room : depth ℕ_discrete w i < length p.places.now
  path_room = omega (arith, depth_bound ℕ_discrete w i, s.room)

  -- The path at the place before: one more place on it, in the place of any that is as deep.
  pub path_step : (q : Path) → q.places.now ≡ set p.places.now (depth ℕ_discrete w i) i → q.depth ≡ depth ℕ_discrete w i → Leads w i q
  path_step q e h = record {
    few = s.few;
    room = rw e (simp length-set s.room);
    depth_is = h;
    stops = λ d h. stops d (dec_lt d v) h;
  }
    where
      v : ℕ
      v = depth ℕ_discrete w i

      stops : (d : ℕ) → Dec (d < v) → d ≤ v → StopsAt ℕ_discrete w d i (get_or q.places.now d 0)
      stops d (yes b) h =
          let ne : d ≢ v = λ e. omega (arith, e) in
          let low : d ≤ p.depth = omega (arith, below, depth_step ℕ_discrete w i l) in
          rw (e, get_or-set_other p.places.now v d i 0 ne) (stops_before ℕ_discrete b (stop d low))
      stops d (no b) h =
          let f : d ≡ v = omega arith in
          rw (e, f, get_or-set_same p.places.now v i 0 path_room) (stops_here ℕ_discrete (omega arith) (omega arith))

  -- The place above: on the path, and as deep, or the next place, and one less deep.
  pub path_turn : Turn w i (then_some (leb (depth ℕ_discrete w i) p.depth) (get_or p.places.now (depth ℕ_discrete w i) 0))
  path_turn = turn (leb (depth ℕ_discrete w i) p.depth) refl
    where
      turn : (b : Bool) → leb (depth ℕ_discrete w i) p.depth ≡ b → Turn w i (then_some b (get_or p.places.now (depth ℕ_discrete w i) 0))
      turn true e =
          let low : depth ℕ_discrete w i ≤ p.depth = leb-true _ _ e in
          let same : depth ℕ_discrete w i ≤ depth ℕ_discrete w (suc i) = omega (arith, below) in
          let above = stop _ low in
          (above, sym (stops_depth ℕ_discrete same above))
      turn false e =
          let deep : p.depth < depth ℕ_discrete w i = leb-false _ _ e in
          (stops_here ℕ_discrete (omega arith) (omega (arith, below)), omega (arith, below, depth_step ℕ_discrete w i l))

-- ── Siblings ──

-- memory has for each place its sibling, of those from the place `j` on
pub record SiblingsFrom (t : List ℕ) (j : ℕ) (memory : List ℕ) : Type 0 where
  pub room : length t < length memory
  pub at : (q : ℕ) → Found (λ k. (j ≤ k) × Sibling ℕ_discrete t q k) (get_or memory q 0)

pub siblings_none : (t memory : List ℕ) (n : ℕ) → length t < n → memory ≡ replicate n 0 → SiblingsFrom t (length t) memory
siblings_none t memory n l e = record {
  room = rw e (simp length-replicate l);
  at = λ q. rw (e, get_or_zeros n q) (nowhere (λ k h. omega (arith, above_inside ℕ_discrete h.1.0)));
}

-- A place is the sibling of the place above it if that is as deep,
pub siblings_sibling : (t : List ℕ) (i k j number : ℕ) (memory : List ℕ) → Turn t i (Some k) → j ≡ suc i → number ≡ i + 1
    → SiblingsFrom t j memory → SiblingsFrom t i (set memory k number)
siblings_sibling t i k j number memory (a, e) next n s = record { room = simp length-set s.room; at = at }
  where
    inside : k < length memory
    inside = omega (arith, a.inside, s.room)

    others : (q : ℕ) → q ≢ k → {n : ℕ} → Found (λ l. (j ≤ l) × Sibling ℕ_discrete t q l) n
        → Found (λ l. (i ≤ l) × Sibling ℕ_discrete t q l) n
    others q ne (found (l, h)) = found (omega arith, h)
    others q ne (nowhere f) = nowhere (λ l h. go l h (dec_lt i l))
      where
        go : (l : ℕ) → (i ≤ l) × Sibling ℕ_discrete t q l → Dec (i < l) → ⊥
        go l (m, h) (yes b) = f l (omega arith, h)
        go l (m, h) (no b) = let same : l ≡ i = omega arith in ne (stops_one (rw same at h.0) a)

    at : (q : ℕ) → Found (λ l. (i ≤ l) × Sibling ℕ_discrete t q l) (get_or (set memory k number) q 0)
    at q = go (ℕ_discrete q k)
      where
        go : Dec (q ≡ k) → Found (λ l. (i ≤ l) × Sibling ℕ_discrete t q l) (get_or (set memory k number) q 0)
        go (yes h) = rw (h, get_or-set_same memory k number 0 inside, n, add-one) (found {j = i} (omega arith, (a, e)))
        go (no m) = rw (get_or-set_other memory k q number 0 m) (others q m (s.at q))

-- and otherwise of none.
pub siblings_child : (t : List ℕ) (i j : ℕ) (memory : List ℕ) → Turn t i None → j ≡ suc i → SiblingsFrom t j memory
    → SiblingsFrom t i memory
siblings_child t i j memory (a, e) next s = record { room = s.room; at = λ q. more q (s.at q) }
  where
    more : (q : ℕ) {n : ℕ} → Found (λ l. (j ≤ l) × Sibling ℕ_discrete t q l) n
        → Found (λ l. (i ≤ l) × Sibling ℕ_discrete t q l) n
    more q (found (l, h)) = found (omega arith, h)
    more q (nowhere f) = nowhere (λ l h. go l h (dec_lt i l))
      where
        go : (l : ℕ) → (i ≤ l) × Sibling ℕ_discrete t q l → Dec (i < l) → ⊥
        go l (m, h) (yes b) = f l (omega arith, h)
        go l (m, (b, d)) (no n) =
            let same : l ≡ i = omega arith in
            let k-is : q ≡ suc i = stops_one (rw same at b) a in
            omega (arith, rw (same, k-is) at d)

pub siblings_all : (t memory : List ℕ) (i : ℕ) → i ≤ 0 → SiblingsFrom t i memory → Siblings t memory
siblings_all t memory i z s = record { at = λ q. all q (s.at q) }
  where
    all : (q : ℕ) {n : ℕ} → Found (λ j. (i ≤ j) × Sibling ℕ_discrete t q j) n → Found (Sibling ℕ_discrete t q) n
    all q (found (l, h)) = found h
    all q (nowhere f) = nowhere (λ j h. f j (omega arith, h))

-- ── Partners ──

pub not_found : {P : ℕ → Type 0} {n : ℕ} → n ≡ 0 → Found P n → (j : ℕ) → ¬ P j
not_found z (nowhere f) = f
not_found z (found h) = absurd (omega arith)

pub found_at : {P : ℕ → Type 0} {n : ℕ} (m : ℕ) → n ≡ m + 1 → Found P n → P m
found_at m e (nowhere f) = absurd (omega arith)
found_at {P} m e (found {j = j} h) = let same : m ≡ j = omega arith in rw same h

-- what is found, as memory holds it
pub found_held : {P : ℕ → Type 0} (o : Option ℕ) → Finds P o → Found P (held o)
found_held None f = nowhere f
found_held (Some j) h = rw add-one (found h)

finds_same : {P Q : ℕ → Type 0} (o : Option ℕ) → ((j : ℕ) → P j → Q j) → ((j : ℕ) → Q j → P j) → Finds P o → Finds Q o
finds_same None f g h = λ j q. h j (g j q)
finds_same (Some j) f g h = f j h

-- The partner of the place `i` of `s` in `t`: none if the place above `i` has none,
pub partner_none : (s t : List ℕ) (i k l n : ℕ) → Above ℕ_discrete s i k → k ≡ l → n ≡ 0 → Found (Paired ℕ_discrete s t l) n
    → Finds (Paired ℕ_discrete s t i) None
partner_none s t i k l n a e z f = λ j p.
    let above : Above ℕ_discrete s i l = rw (← e) a in
    let (m, h, q) = paired_above ℕ_discrete above p in
    not_found z f m q

-- the sibling of the partner `l` of the place above that is as deep,
pub partner_sibling : (s t : List ℕ) (i k l : ℕ) (o : Option ℕ) → Turn s i (Some k) → Paired ℕ_discrete s t k l
    → Finds (Sibling ℕ_discrete t l) o → Finds (Paired ℕ_discrete s t i) o
partner_sibling s t i k l o (a, e) p f =
    finds_same o (λ j. (paired_sibling ℕ_discrete a e p).1) (λ j. (paired_sibling ℕ_discrete a e p).0) f

-- and otherwise the child of the next place that has the same depth.
pub partner_child : (s t : List ℕ) (i l : ℕ) (o : Option ℕ) → Turn s i None → Paired ℕ_discrete s t (suc i) l
    → Finds (λ j. (suc j ≡ l) × (depth ℕ_discrete t j ≡ depth ℕ_discrete s i)) o → Finds (Paired ℕ_discrete s t i) o
partner_child s t i l o (a, e) p f =
    let same = paired_depth ℕ_discrete a.inside p in
    finds_same o
    (λ j (n, d). (paired_child ℕ_discrete a e p).1 (n, omega (arith, d, e, same)))
    (λ j q. let (n, d) = (paired_child ℕ_discrete a e p).0 q in (n, omega (arith, d, e, same)))
    f

pub partners_none : (s t memory : List ℕ) (number : ℕ) → length s < length memory → number ≡ length t + 1
    → PartnersFrom s t (length s) (set memory (length s) number)
partners_none s t memory number l n = record { room = simp length-set l; at = at }
  where
    at : (k : ℕ) → length s ≤ k → k ≤ length s → Found (Paired ℕ_discrete s t k) (get_or (set memory (length s) number) k 0)
    at k low high =
        let e : k ≡ length s = omega arith in
        rw (e, get_or-set_same memory (length s) number 0 l, n, add-one) (found (paired_end ℕ_discrete s t))

pub partners_more : (s t : List ℕ) (i j : ℕ) (memory : List ℕ) (p : ℕ) → i < length s → j ≡ suc i → Found (Paired ℕ_discrete s t i) p
    → PartnersFrom s t j memory → PartnersFrom s t i (set memory i p)
partners_more s t i j memory p l next f m = record { room = simp length-set m.room; at = λ k low high. at k low high (dec_lt i k) }
  where
    at : (k : ℕ) → i ≤ k → k ≤ length s → Dec (i < k) → Found (Paired ℕ_discrete s t k) (get_or (set memory i p) k 0)
    at k low high (yes b) =
        let ne : k ≢ i = λ e. omega (arith, e) in rw (get_or-set_other memory i k p 0 ne) (m.at k (omega arith) high)
    at k low high (no b) =
        let e : k ≡ i = omega arith in
        let inside : i < length memory = omega (arith, m.room) in
        rw (e, get_or-set_same memory i p 0 inside) f

pub partners_all : (s t : List ℕ) (i : ℕ) (memory : List ℕ) → i ≤ 0 → PartnersFrom s t i memory → Partners s t memory
partners_all s t i memory z m = record { at = λ k l. m.at k (omega arith) l }
