-- Two congruent lean words at the first place where they differ: the letter of the one comes next in the other behind a run
-- of places that all have the same coordinates, of the sum `k + 1`. So that letter can be brought to the front of the run by
-- exchanges. The proof carries short words, made of shortest witnesses, from one word to the other and sees where they land.
use Rattle.std.proofs.Common.{◌≡◌, ℕ, suc, ◌+◌, ◌≤◌, List, [], ◌∷◌, ◌++◌, length, sym, refl, ap, ⊎_elim, append_assoc, append-nil, arith}
use native.Mathlib.Decide.{dec_le}
use Rattle.words.specs.Words.{Sub, skip, keep, Within, Congruent}
use Rattle.words.proofs.Subsequences.{sub_refl, sub_trans, sub_tail, sub_append, sub_front, sub_back}
use Rattle.words.proofs.Subsequences.{strip_heads, strip_other, strip_end, length_around, landing, overrun}
use Rattle.words.proofs.Subsequences.{occurs_head, occurs_at, after, first_cut, within_sub, within_trans, congruent_sym}
use Rattle.words.proofs.Coordinates.{right, right_is, right_least, RightWitness, left, left_is, left_least, LeftWitness}
use Rattle.words.proofs.Dropping.{dropping, Needed, Lean}
use Rattle.words.proofs.Exchanging.{Exchangeable}

module _ {A : Type 0} (eq : (x y : A) → Dec (x ≡ y)) where
  -- No lean word is congruent to a front part of it: dropping the letter behind that part leaves a word between the two.
  pub front_part : {k : ℕ} (p : List A) (b : A) (v : List A) → Lean eq k (p ++ b ∷ v) → ¬ Within k (p ++ b ∷ v) p
  front_part {k} p b v h f =
      omega (arith, h p b v refl, (dropping eq k p b v).0 (within_trans f (within_sub k (sub_front p v))))

  -- all places of `g` and the place of `b` in `p ++ (g ++ b ∷ r)` have the coordinates `X` and `Y`, of the sum `k + 1`
  pub record Run (k : ℕ) (p g : List A) (b : A) (r : List A) : Type 0 where
    pub X : ℕ
    pub Y : ℕ
    pub sum : X + Y ≡ suc k
    pub places : (s : List A) (c : A) (t : List A) → g ≡ s ++ c ∷ t
        → (left eq (p ++ s) c ≡ X) × (right eq c (t ++ b ∷ r) ≡ Y)
    pub last_left : left eq (p ++ g) b ≡ X
    pub last_right : right eq b r ≡ Y

  -- in `p ++ a ∷ u` a run begins with this `a` and ends with a `b`
  abbrev pub RunTo : ℕ → List A → A → List A → A → Type 0
  RunTo k p a u b = (g : List A) × (r : List A) × (u ≡ g ++ b ∷ r) × Run k p (a ∷ g) b r

  -- neighbours in a run can be exchanged
  pub run_neighbours : {k : ℕ} {p g : List A} {c d b : A} {r : List A} → Run k p (c ∷ d ∷ g) b r
      → Exchangeable eq k p c d (g ++ b ∷ r)
  run_neighbours {p = p} {g = g} {c = c} {d = d} h =
      let (l, m) = rw append-nil at (h.places [] c (d ∷ g) refl) in
      let (l', m') = h.places (c ∷ []) d g refl in
      record { same_left = omega arith; same_right = omega arith; sum = omega arith }

  pub run_end : {k : ℕ} {p : List A} {c b : A} {r : List A} → Run k p (c ∷ []) b r → Exchangeable eq k p c b r
  run_end {p = p} {c = c} h =
      let (l, m) = rw append-nil at (h.places [] c [] refl) in
      record { same_left = omega arith; same_right = omega arith; sum = omega arith }

  pub run_tail : {k : ℕ} {p g : List A} {c b : A} {r : List A} → Run k p (c ∷ g) b r → Run k (p ++ c ∷ []) g b r
  run_tail {p = p} {g = g} {c = c} {b = b} h = record {
    X = h.X;
    Y = h.Y;
    sum = h.sum;
    places = λ s d t e. rw (append_assoc p (c ∷ []) s) (h.places (c ∷ s) d t (ap (λ l. c ∷ l) e));
    last_left = rw (append_assoc p (c ∷ []) g) h.last_left;
    last_right = h.last_right;
  }

  -- a short word whose `c` does not fit into the front `q` of another word has what begins with that `c` in the back of it
  carry : {k : ℕ} {x y v w : List A} {c : A} (p q : List A) → Within k (p ++ v) (q ++ w) → length x + suc (length y) ≤ k
      → Sub x p → ¬ Sub (x ++ c ∷ []) q → Sub (c ∷ y) v → Sub (c ∷ y) w
  carry {x = x} {y = y} {c = c} p q f l sx n sy =
      let s = f (x ++ c ∷ y) (omega (arith, length_around x c y)) (sub_append sx sy) in
      ⊎_elim (λ i. absurd (n i)) (λ i. i) (landing x q s)

  -- ── The coordinates in the run ──

  -- The words are `p ++ (g ++ b ∷ r)` and `p ++ b ∷ v`, with no `b` in `g`.
  module _
      (k : ℕ) (p g : List A) (b : A) (r v : List A) (none : ¬ Sub (b ∷ []) g)
      (to : Within k (p ++ (g ++ b ∷ r)) (p ++ b ∷ v)) (from : Within k (p ++ b ∷ v) (p ++ (g ++ b ∷ r)))
      (needed : Needed eq k p b v) where
    behind : {y : List A} → Sub (b ∷ y) (g ++ b ∷ r) → Sub y r
    behind i = ⊎_elim (λ j. absurd (none j)) strip_heads (landing [] g i)

    -- the shortest witness on the right of `b` in the one word lies behind `b` in the other too
    abbrev Shared : Type 0
    Shared = (y : List A) × Sub y r × (¬ Sub (b ∷ y) v) × (suc (length y) ≡ right eq b v)

    shared : Shared
    shared = go (left_is eq p b) (right_is eq b v)
      where
        go : LeftWitness eq p b → RightWitness eq b v → Shared
        go (x, sx, nx, ex) (y, sy, ny, ey) = (y, behind (carry p p from (omega arith) sx nx (keep sy)), ny, ey)

    -- One place of `g`, of the letter `c`.
    module _ (s : List A) (c : A) (t : List A) (cut : g ≡ s ++ c ∷ t) where
      -- a short word that has its `c` at this place in the one word has it behind `b` in the other
      carry_place : {x y : List A} → length x + suc (length y) ≤ k → Sub x (p ++ s) → ¬ Sub (x ++ c ∷ []) (p ++ s)
          → Sub y (t ++ b ∷ r) → Sub (c ∷ y) v
      carry_place {x} {y} l sx n sy =
          strip_other (λ e. none (rw (cut, ← e) (occurs_at s c t)))
          (carry (p ++ s) p there l sx (λ i. n (sub_trans i (sub_front p s))) (keep sy))
        where
          there : Within k ((p ++ s) ++ c ∷ (t ++ b ∷ r)) (p ++ b ∷ v)
          there = rw (append_assoc p s (c ∷ (t ++ b ∷ r)), ← append_assoc s (c ∷ t) (b ∷ r), ← cut) to

      -- else the shared witness, with `b` and the left witness of `c` before it, would come behind `b`
      left_above : suc k ≤ left eq (p ++ s) c + right eq b v
      left_above = go (dec_le (suc k) (left eq (p ++ s) c + right eq b v)) (left_is eq (p ++ s) c) shared
        where
          go : Dec (suc k ≤ left eq (p ++ s) c + right eq b v) → LeftWitness eq (p ++ s) c → Shared
              → suc k ≤ left eq (p ++ s) c + right eq b v
          go (yes l) h w = l
          go (no m) (x, sx, nx, ex) (y, sy, ny, ey) =
              absurd (ny (sub_tail (carry_place (omega arith) sx nx (sub_trans (keep sy) (sub_back t (b ∷ r))))))

      -- else the right witness of `c`, with `c`, `b` and the left witness of `b` before it, would come behind `c`
      right_above : left eq p b + right eq b v ≡ suc k → Needed eq k (p ++ s) c (t ++ b ∷ r)
          → right eq b v ≤ right eq c (t ++ b ∷ r)
      right_above sum lean =
          go (dec_le (right eq b v) (right eq c (t ++ b ∷ r))) (left_is eq (p ++ s) c) (right_is eq c (t ++ b ∷ r))
          (left_is eq p b)
        where
          go : Dec (right eq b v ≤ right eq c (t ++ b ∷ r)) → LeftWitness eq (p ++ s) c → RightWitness eq c (t ++ b ∷ r)
              → LeftWitness eq p b → right eq b v ≤ right eq c (t ++ b ∷ r)
          go (yes l) h i j = l
          go (no m) (x, sx, nx, ex) (y, sy, ny, ey) (x', sx', nx', ex') =
              let i = behind (carry p p from (omega arith) sx' nx' (keep (carry_place (omega arith) sx nx sy))) in
              absurd (ny (sub_trans i (sub_trans (skip (sub_refl r)) (sub_back t (b ∷ r)))))

      place : left eq p b + right eq b v ≡ suc k → Needed eq k (p ++ s) c (t ++ b ∷ r)
          → (left eq (p ++ s) c ≡ left eq p b) × (right eq c (t ++ b ∷ r) ≡ right eq b v)
      place sum lean =
          let l = left_above in
          let m = right_above sum lean in
          (omega arith, omega arith)

    -- The place of `b` behind `g`.
    last_place : left eq p b + right eq b v ≡ suc k → Needed eq k (p ++ g) b r
        → (left eq (p ++ g) b ≡ left eq p b) × (right eq b r ≡ right eq b v)
    last_place sum lean =
        let l = left_last (dec_le (left eq p b) (left eq (p ++ g) b)) (left_is eq p b) (left_is eq (p ++ g) b) shared in
        let m = right_last (dec_le (right eq b v) (right eq b r)) (left_is eq p b) (right_is eq b r) in
        (l, omega arith)
      where
        left_last : Dec (left eq p b ≤ left eq (p ++ g) b) → LeftWitness eq p b → LeftWitness eq (p ++ g) b → Shared
            → left eq (p ++ g) b ≡ left eq p b
        left_last (yes l) (x, sx, nx, ex) h w =
            let m = left_least eq b (sub_trans sx (sub_front p g)) (λ i. nx (strip_end x p none i)) in
            omega arith
        left_last (no m) h (x, sx, nx, ex) (y, sy, ny, ey) =
            let i : Sub (x ++ b ∷ y) (p ++ (g ++ b ∷ r)) = rw (← append_assoc p g (b ∷ r)) (sub_append sx (keep sy)) in
            let j = overrun x p b (to (x ++ b ∷ y) (omega (arith, length_around x b y)) i) in
            absurd (⊎_elim (λ t. omega (arith, left_least eq b t (λ h. nx (sub_trans h (sub_front p g))))) ny j)

        right_last : Dec (right eq b v ≤ right eq b r) → LeftWitness eq p b → RightWitness eq b r
            → right eq b v ≤ right eq b r
        right_last (yes l) h w = l
        right_last (no m) (x, sx, nx, ex) (y, sy, ny, ey) =
            let i = carry p p to (omega arith) sx nx (sub_trans (keep sy) (sub_back g (b ∷ r))) in
            omega (arith, right_least eq (strip_heads i) (λ j. ny (behind (carry p p from (omega arith) sx nx (keep j)))))

  -- ── The run ──

  -- `b` comes next in `a ∷ u` behind `a ∷ g`
  abbrev Next : A → A → List A → Type 0
  Next a b u = (g : List A) × (r : List A) × (u ≡ g ++ b ∷ r) × (¬ Sub (b ∷ []) (a ∷ g))

  next : {k : ℕ} {a b : A} (p u v : List A) → ¬ (a ≡ b) → Needed eq k p b v → Within k (p ++ b ∷ v) (p ++ a ∷ u) → Next a b u
  next {k} {a} {b} p u v n l f = go (left_is eq p b) (right_is eq b v)
    where
      go : LeftWitness eq p b → RightWitness eq b v → Next a b u
      go (x, sx, nx, ex) (y, sy, ny, ey) =
          let m : ¬ (b ≡ a) = λ e. n (sym e) in
          let (g, e, none) = first_cut eq (occurs_head (strip_other m (carry p p f (omega arith) sx nx (keep sy)))) in
          (g, after eq b u, e, λ i. none (strip_other m i))

  -- what holds of all places of the run holds of the first
  first_above : {k : ℕ} {a b : A} (p u v : List A) → ¬ (a ≡ b) → Needed eq k p b v → Congruent k (p ++ a ∷ u) (p ++ b ∷ v)
      → suc k ≤ left eq p a + right eq b v
  first_above {k} {a} {b} p u v n l c = go (next p u v n l c.1)
    where
      go : Next a b u → suc k ≤ left eq p a + right eq b v
      go (g, r, e, none) =
          rw append-nil at (left_above k p (a ∷ g) b r v none (rw e at c.0) (rw e at c.1) l [] a g refl)

  -- Where two congruent lean words first differ, a run begins in the one that ends with the letter of the other.
  pub differ : {k : ℕ} {a b : A} (p u v : List A) → ¬ (a ≡ b) → Lean eq k (p ++ a ∷ u) → Lean eq k (p ++ b ∷ v)
      → Congruent k (p ++ a ∷ u) (p ++ b ∷ v) → RunTo k p a u b
  differ {k} {a} {b} p u v n lu lv c = go (next p u v n needed c.1)
    where
      needed : Needed eq k p b v
      needed = lv p b v refl

      sum : left eq p b + right eq b v ≡ suc k
      sum =
          let m : ¬ (b ≡ a) = λ e. n (sym e) in
          let l : Needed eq k p a u = lu p a u refl in
          omega (arith, needed, first_above p u v n needed c, first_above p v u m l (congruent_sym c))

      go : Next a b u → RunTo k p a u b
      go (g, r, e, none) = (g, r, e, run)
        where
          to : Within k (p ++ a ∷ (g ++ b ∷ r)) (p ++ b ∷ v)
          to = rw e at c.0

          from : Within k (p ++ b ∷ v) (p ++ a ∷ (g ++ b ∷ r))
          from = rw e at c.1

          lean : Lean eq k (p ++ a ∷ (g ++ b ∷ r))
          lean = rw e at lu

          places : (s : List A) (d : A) (t : List A) → a ∷ g ≡ s ++ d ∷ t
              → (left eq (p ++ s) d ≡ left eq p b) × (right eq d (t ++ b ∷ r) ≡ right eq b v)
          places s d t f = place k p (a ∷ g) b r v none to from needed s d t f sum (lean (p ++ s) d (t ++ b ∷ r) cut)
            where
              cut : p ++ a ∷ (g ++ b ∷ r) ≡ (p ++ s) ++ d ∷ (t ++ b ∷ r)
              cut = rw (append_assoc p s (d ∷ (t ++ b ∷ r)), ← append_assoc s (d ∷ t) (b ∷ r), ← f)

          end : (left eq (p ++ a ∷ g) b ≡ left eq p b) × (right eq b r ≡ right eq b v)
          end = last_place k p (a ∷ g) b r v none to from needed sum (lean (p ++ a ∷ g) b r (rw append_assoc))

          run : Run k p (a ∷ g) b r
          run = record {
            X = left eq p b;
            Y = right eq b v;
            sum = sum;
            places = places;
            last_left = end.0;
            last_right = end.1;
          }
