-- From the steps to the form: what is left of a word, put in order, is the form of the word.
use Rattle.std.proofs.Common.{◌≡◌, ℕ, suc, ◌<◌, ◌≤◌, List, [], ◌∷◌, ◌++◌, length, get_or, take, drop, sym, refl, ap, ◌∙◌, append_assoc, arith}
use native.Mathlib.Decide.{ℕ_discrete}
use Rattle.std.specs.List.{slice_get}
use Rattle.std.proofs.iter.runs.Lists.{same_Some, slice_get_within}
use Rattle.std.proofs.lemmas.List.{length-take-le, get_or_at, take_at, drop_at}
use Rattle.std.proofs.lemmas.Option.{slice_get-get_or}
use Rattle.words.specs.Forms.{Formed}
use Rattle.words.specs.Steps.{lefts, Below, Spells, nothing, letter, Climbs, Kept, Thinned, Level}
use Rattle.words.specs.Steps.{Exchanged, none, more, Reordered, InOrder}
use Rattle.words.specs.Words.{Order, IsForm}
use Rattle.words.proofs.Exchanging.{Arranged, exchange_start, exchange_step, exchangeable_at, Sorted, sorted_by}
use Rattle.words.proofs.Forms as forms
use Rattle.words.proofs.Gathering.{climbs_above}
use Rattle.words.proofs.LetterOrders.{numbers_order}
use Rattle.words.proofs.Passing.{none_lean}
use Rattle.words.proofs.Reordering.{swapped, swap_swapped, swapped_split}
use Rattle.words.proofs.Spelling.{spells_length, spells_at, spells_below, form_letters}
use Rattle.words.proofs.Subsequences.{length_around, length_end}

-- ── Sizes ──

-- strictly rising numbers below a bound are not more than that
climbs_few : (bound : ℕ) (ns : List ℕ) → Climbs 0 ns → Below bound ns → length ns ≤ bound
climbs_few bound [] h b = omega arith
climbs_few bound (n ∷ ns) h b =
    omega (arith, climbs_above (length ns) h (omega arith), b (length ns) (omega arith))

module _ {A : Type 0} {lt : A → A → Type 0} {k : ℕ} {word : List A} {places ranks before behind : List ℕ}
    (h : Thinned lt k word places ranks before behind) where
  pub thinned_below : Below (length word) places
  thinned_below = rw (spells_length h.spelled) at (spells_below h.lean.spelled)

  pub thinned_few : length places ≤ length word
  thinned_few = climbs_few (length word) places h.lean.climbing thinned_below

-- ── Exchanges keep what is left of a word ──

arranged_swapped : {k : ℕ} {w L R f : List ℕ} (i : ℕ) → suc i < length f → Level k L R i → Arranged ℕ_discrete k w L R f
    → Arranged ℕ_discrete k w L R (swapped i f)
arranged_swapped {k} {w} {L} {R} {f} i l p h = go (swapped_split i f l)
  where
    go : (s : List ℕ) × (a : ℕ) × (b : ℕ) × (t : List ℕ) × (f ≡ s ++ a ∷ b ∷ t) × (swapped i f ≡ s ++ b ∷ a ∷ t)
        × (length s ≡ i)
        → Arranged ℕ_discrete k w L R (swapped i f)
    go (s, a, b, t, e, g, n) =
        let x = rw e at h in
        rw g (exchange_step ℕ_discrete ((exchangeable_at ℕ_discrete s x).1 (rw n p)) x)

arranged_exchanged : {k : ℕ} {w L R f g : List ℕ} → Exchanged (Level k L R) f g → Arranged ℕ_discrete k w L R f
    → Arranged ℕ_discrete k w L R g
arranged_exchanged none h = h
arranged_exchanged (more {w = v} i p l x) h = rw (swap_swapped i v l) (arranged_swapped i l p (arranged_exchanged x h))

-- numbers in order at these places are sorted
in_order_sorted : {k : ℕ} {w L R f : List ℕ} → Arranged ℕ_discrete k w L R f → InOrder (Level k L R) (length f) f
    → Sorted ℕ_discrete ◌<◌ k f
in_order_sorted {k} {w} {L} {R} {f} h s = sorted_by ℕ_discrete ◌<◌ h places
  where
    places : (p : List ℕ) (a b : ℕ) (q : List ℕ) → f ≡ p ++ a ∷ b ∷ q → Level k L R (length p) → ¬ (b < a)
    places p a b q e l m =
        let inside = ap length e ∙ length_around p a (b ∷ q) in
        let first : get_or f (length p) 0 ≡ a = ap (λ t. get_or t (length p) 0) e ∙ get_or_at p a (b ∷ q) 0 (length p) refl in
        let second : get_or f (suc (length p)) 0 ≡ b =
        ap (λ t. get_or t (suc (length p)) 0) (e ∙ sym (append_assoc p (a ∷ []) (b ∷ q)))
        ∙ get_or_at (p ++ a ∷ []) b q 0 (suc (length p)) (length_end p a) in
        omega (arith, s (length p) (omega arith) l)

-- the form of the ranks
form_ranks : {k : ℕ} {numbers places ranks before behind sorted : List ℕ} → Kept k numbers places ranks behind
    → before ≡ lefts ℕ_discrete [] ranks → Exchanged (Level k before behind) ranks sorted
    → InOrder (Level k before behind) (length sorted) sorted → IsForm ◌<◌ k numbers sorted
form_ranks {k} {numbers} {places} {ranks} {before} {behind} {sorted} h e x s =
    let start = exchange_start ℕ_discrete h.congruent (none_lean ℕ_discrete h.lean) in
    finish (arranged_exchanged x (rw (sym e, sym h.coordinates) at start))
  where
    finish : Arranged ℕ_discrete k numbers before behind sorted → IsForm ◌<◌ k numbers sorted
    finish y = forms.form ℕ_discrete numbers_order y.lean (in_order_sorted y s) y.congruent

-- ── Back to letters ──

-- letters at places are spelled by the ranks at these places
spells_chosen : {A : Type 0} {letters word : List A} {numbers : List ℕ} → Spells letters numbers word
    → {places ranks : List ℕ} {w : List A} → Spells numbers places ranks → Spells word places w → Spells letters ranks w
spells_chosen h nothing nothing = nothing
spells_chosen {letters = letters} {numbers = numbers} h (letter {n = p} {a = r} e s) (letter {a = a} f t) =
    let inside = slice_get_within numbers p r e in
    let same : get_or numbers p 0 ≡ r = same_Some (get_or numbers p 0) r (sym (slice_get-get_or numbers p 0 inside) ∙ e) in
    letter (ap (slice_get letters) (sym same) ∙ spells_at p h inside ∙ f) (spells_chosen h s t)

-- What is left of a word, gathered and put in order, is its form.
pub formed : {A : Type 0} {lt : A → A → Type 0} (order : Order lt) {k : ℕ} {word : List A}
    {places ranks before behind : List ℕ} {out : List A} (gathered : List A) {ranks' : List ℕ} {w : List A}
    → Thinned lt k word places ranks before behind → length places ≤ length gathered
    → Spells word places (take (length places) gathered) → drop (length places) gathered ≡ drop (length places) out
    → Reordered (Level k before behind) ranks (take (length places) gathered) ranks' w
    → InOrder (Level k before behind) (length ranks') ranks' → length w ≡ length (take (length places) gathered)
    → Formed lt k word out (length places) (w ++ drop (length places) gathered)
formed order {places = places} gathered {ranks' = ranks'} {w = w} h l g e r s n = record {
  shorter = thinned_few h;
  form =
      rw (take_at w (drop (length places) gathered) (length places) long)
      (form_letters h.letters order h.rising h.spelled spelled
      (form_ranks h.lean h.coordinates r.exchanged s));
  rest = drop_at w (drop (length places) gathered) (length places) long ∙ e;
}
  where
    long : length w ≡ length places
    long = n ∙ length-take-le (length places) gathered l

    spelled : Spells h.letters ranks' w
    spelled = r.together h.letters (spells_chosen h.spelled h.lean.spelled g)
