-- Congruent lean words are equally long, and the sorted one among them is the form of the whole class: where another lean
-- word first differs from it, the run that begins there is in order, and a word that is not lean is longer.
use Rattle.std.proofs.Common.{◌≡◌, ℕ, suc, ◌↔◌, List, [], ◌∷◌, ◌++◌, length, refl, ap, inl, inr, ⊎_elim, append_assoc, append-nil, arith, length-append}
use native.Mathlib.Decide.{ℕ_discrete}
use Rattle.words.specs.Words.{Congruent, Order, LexBefore, here, there, Earlier, IsForm}
use Rattle.words.proofs.Subsequences.{sub_length, length_around, congruent_sym, congruent_trans}
use Rattle.words.proofs.Orders.{form_unique}
use Rattle.words.proofs.Coordinates.{lefts, rights}
use Rattle.words.proofs.Dropping.{Lean, pass, pass_congruent, pass_lean, pass_sub, pass_whole}
use Rattle.words.proofs.Exchanging.{Level, Arranged, exchange_start, exchange_step, exchangeable_at, Sorted}
use Rattle.words.proofs.Sorting.{sort}
use Rattle.words.proofs.Differing.{front_part, Run, RunTo, run_neighbours, run_end, run_tail, differ}

module _ {A : Type 0} (eq : (x y : A) → Dec (x ≡ y)) where
  -- ── Lean words are equally long ──

  -- the lists of coordinates say that a run begins
  run_level : {k : ℕ} {w : List A} {L R : List ℕ} {p : List A} {c b : A} {r : List A} (g : List A)
      → Run eq k p (c ∷ g) b r → Arranged eq k w L R (p ++ c ∷ (g ++ b ∷ r)) → Level k L R (length p)
  run_level {p = p} [] h x = (exchangeable_at eq p x).0 (run_end eq h)
  run_level {p = p} (d ∷ g) h x = (exchangeable_at eq p x).0 (run_neighbours eq h)

  -- the last letter of a run is brought before it by exchanges
  bring : {k : ℕ} {w : List A} {L R : List ℕ} {b : A} {r : List A} (g : List A) {p : List A} → Run eq k p g b r
      → Arranged eq k w L R (p ++ (g ++ b ∷ r)) → Arranged eq k w L R (p ++ b ∷ (g ++ r))
  bring [] h x = x
  bring {k} {w} {L} {R} {b} {r} (c ∷ g) {p} h x =
      go (rw append_assoc at (bring g (run_tail eq h) (rw (← append_assoc p (c ∷ []) (g ++ b ∷ r)) at x)))
    where
      go : Arranged eq k w L R (p ++ c ∷ b ∷ (g ++ r)) → Arranged eq k w L R (p ++ b ∷ c ∷ (g ++ r))
      go y = exchange_step eq ((exchangeable_at eq p y).1 (run_level g h x)) y

  -- two lean words of one class
  abbrev Peers : ℕ → List A → List A → Type 0
  Peers k u v = Lean eq k u × Lean eq k v × Congruent k u v

  peers_step : {k : ℕ} (p : List A) (b : A) (u v : List A) → Peers k (p ++ b ∷ u) (p ++ b ∷ v)
      → Peers k ((p ++ b ∷ []) ++ u) ((p ++ b ∷ []) ++ v)
  peers_step p b u v h = rw (append_assoc p (b ∷ []) u, append_assoc p (b ∷ []) v) h

  -- Two congruent lean words are equally long: the letters of the one are brought to their places in the other, one by one.
  pub equal_length : {k : ℕ} {u v : List A} → Lean eq k u → Lean eq k v → Congruent k u v → length u ≡ length v
  equal_length {k} {u} {v} lu lv c = behind [] u v (lu, lv, c)
    where
      behind : (p u v : List A) → Peers k (p ++ u) (p ++ v) → length u ≡ length v
      behind p [] [] h = refl
      behind p [] (b ∷ v) (lu, lv, c) = absurd (front_part eq p b v lv (rw append-nil at c.1))
      behind p (a ∷ u) [] (lu, lv, c) = absurd (front_part eq p a u lu (rw append-nil at c.0))
      behind p (a ∷ u) (b ∷ v) (lu, lv, c) = go (eq a b) (λ w. behind (p ++ b ∷ []) w v)
        where
          go : Dec (a ≡ b) → ((w : List A) → Peers k ((p ++ b ∷ []) ++ w) ((p ++ b ∷ []) ++ v) → length w ≡ length v)
              → suc (length u) ≡ suc (length v)
          go (yes e) f = ap suc (f u (peers_step p b u v (rw e at lu, lv, rw e at c)))
          go (no n) f = by (differ eq p u v n lu lv c)
            where
              by : RunTo eq k p a u b → suc (length u) ≡ suc (length v)
              by (g, r, e, run) =
                  let x = bring (a ∷ g) run (exchange_start eq (rw e at (congruent_sym c)) (rw e at lu)) in
                  let h = peers_step p b (a ∷ (g ++ r)) v (x.lean, lv, congruent_sym x.congruent) in
                  let same = f (a ∷ (g ++ r)) h in
                  omega (arith, ap length e, length_around g b r, length-append g r)

  -- ── The sorted lean word is the form ──

  module _ {lt : A → A → Type 0} (order : Order lt) where
    -- a run of a sorted word is in order
    run_sorted : {k : ℕ} {b : A} {r : List A} (g : List A) {p : List A} {a : A} → Run eq k p (a ∷ g) b r
        → Sorted eq lt k (p ++ a ∷ (g ++ b ∷ r)) → ¬ lt b a
    run_sorted {b = b} {r = r} [] {p} {a} h s = s p a b r refl (run_end eq h)
    run_sorted {b = b} {r = r} (d ∷ g) {p} {a} h s =
        go (s p a d (g ++ b ∷ r) refl (run_neighbours eq h))
        (run_sorted g (run_tail eq h) (rw (← append_assoc p (a ∷ []) (d ∷ (g ++ b ∷ r))) at s)) (eq a d)
      where
        go : ¬ lt d a → ¬ lt b d → Dec (a ≡ d) → ¬ lt b a
        go m n (yes e) l = n (rw e at l)
        go m n (no f) l = ⊎_elim (λ i. n (order.transitive l i)) m (order.total f)

    -- of congruent lean words, the sorted one is first in the order of a dictionary
    sorted_first : {k : ℕ} (p u v : List A) → Sorted eq lt k (p ++ u) → Peers k (p ++ u) (p ++ v) → ¬ (u ≡ v)
        → LexBefore lt u v
    sorted_first p [] [] s h n = absurd (n refl)
    sorted_first p [] (b ∷ v) s (lu, lv, c) n = absurd (front_part eq p b v lv (rw append-nil at c.1))
    sorted_first p (a ∷ u) [] s (lu, lv, c) n = absurd (front_part eq p a u lu (rw append-nil at c.0))
    sorted_first {k} p (a ∷ u) (b ∷ v) s (lu, lv, c) n = go (eq a b) (sorted_first (p ++ b ∷ []) u v)
      where
        Rest : Type 0
        Rest =
            Sorted eq lt k ((p ++ b ∷ []) ++ u) → Peers k ((p ++ b ∷ []) ++ u) ((p ++ b ∷ []) ++ v) → ¬ (u ≡ v)
            → LexBefore lt u v

        go : Dec (a ≡ b) → Rest → LexBefore lt (a ∷ u) (b ∷ v)
        go (yes e) f =
            let t : Sorted eq lt k ((p ++ b ∷ []) ++ u) = rw (append_assoc p (b ∷ []) u, ← e) s in
            rw e (there (f t (peers_step p b u v (rw e at lu, lv, rw e at c)) (λ d. n (cc (e, d)))))
        go (no m) f = ⊎_elim (λ l. here l) (λ l. absurd (by (differ eq p u v m lu lv c) l)) (order.total m)
          where
            by : RunTo eq k p a u b → ¬ lt b a
            by (g, r, e, run) = run_sorted g run (rw e at s)

    -- A lean and sorted word is the form of every word that is congruent to it.
    pub form : {k : ℕ} {w f : List A} → Lean eq k f → Sorted eq lt k f → Congruent k w f → IsForm lt k w f
    form {k} {w} {f} l s c = (
      c,
      λ v d n. others v (congruent_trans (congruent_sym c) d) n (ℕ_discrete (length (pass eq k [] v)) (length v)),
    )
      where
        others : (v : List A) → Congruent k f v → ¬ (f ≡ v) → Dec (length (pass eq k [] v) ≡ length v) → Earlier lt f v
        others v d n (yes e) =
            let lean = rw (pass_whole eq k v e) at (pass_lean eq k v) in
            inr (equal_length l lean d, sorted_first [] f v s (l, lean, d) n)
        others v d n (no m) =
            let same = equal_length l (pass_lean eq k v) (congruent_trans d (pass_congruent eq k v)) in
            inl (omega (arith, sub_length (pass_sub eq k [] v)))

    -- Every word has a form: the pass makes it lean, and exchanges sort it.
    pub has_form : (k : ℕ) (w : List A) → (f : List A) × IsForm lt k w f
    has_form k w =
        let start = exchange_start eq (pass_congruent eq k w) (pass_lean eq k w) in
        let (f, x, s) = sort eq order k (lefts eq [] (pass eq k [] w)) (rights eq (pass eq k [] w)) start in
        (f, form x.lean s x.congruent)

    -- ── Forms and congruence ──

    -- congruent words have the same forms
    form_shared : {k : ℕ} {u v g : List A} → Congruent k u v → IsForm lt k v g → IsForm lt k u g
    form_shared c h = (congruent_trans c h.0, λ w d n. h.1 w (congruent_trans (congruent_sym c) d) n)

    -- Two words are congruent exactly if their forms are equal.
    pub forms_and_congruence : {k : ℕ} {u v f g : List A} → IsForm lt k u f → IsForm lt k v g → (f ≡ g) ↔ Congruent k u v
    forms_and_congruence h i =
        (λ e. congruent_trans h.0 (rw e (congruent_sym i.0)), λ c. form_unique order eq h (form_shared c i))
