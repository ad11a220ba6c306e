-- Letters gathered from rising places, into other memory or to the front of the word's own.
use Rattle.std.proofs.Common.{◌≡◌, ℕ, zero, suc, ◌+◌, ◌-◌, ◌<◌, ◌≤◌, List, length, get_or, take, drop, set, Some, sym, refl, ap, ◌∙◌, arith}
use Rattle.std.specs.List.{slice_get}
use Rattle.std.proofs.iter.runs.Lists.{nth_drop}
use Rattle.std.proofs.lemmas.List.{length-set, take_more, take_more_set, drop-set-lt, drop-drop}
use Rattle.words.specs.Steps.{Spells, nothing, Climbs, top, step}
use Rattle.words.proofs.Spelling.{spells_push}

-- a rising list has no number below its place
pub climbs_above : {j : ℕ} {ns : List ℕ} (i : ℕ) → Climbs j ns → i < length ns → j + i ≤ get_or ns i 0
climbs_above i top l = absurd (omega arith)
climbs_above zero (step m h) l = omega arith
climbs_above (suc i) (step m h) l = omega (arith, climbs_above i h (omega arith))

module _ {A : Type 0} where
  -- behind the place that is written nothing changes
  pub rest_step : (old out : List A) (i : ℕ) (a : A) → drop i out ≡ drop i old
      → drop (i + 1) (set out i a) ≡ drop (i + 1) old
  rest_step old out i a h =
      drop-set-lt (i + 1) out i a (omega arith) ∙ sym (drop-drop 1 i out) ∙ ap (drop 1) h ∙ drop-drop 1 i old

  -- The letters of the first `i` places are written; behind them nothing has changed.
  pub record Gathered (word : List A) (places : List ℕ) (old : List A) (i : ℕ) (out : List A) : Type 0 where
    pub long : length out ≡ length old
    pub letters : Spells word (take i places) (take i out)
    pub rest : drop i out ≡ drop i old

  pub gathered_start : (word : List A) (places : List ℕ) (old : List A) → Gathered word places old 0 old
  gathered_start word places old = record { long = refl; letters = nothing; rest = refl }

  pub gathered_step : {word : List A} {places : List ℕ} {old out : List A} {i : ℕ} (a : A) → i < length places
      → i < length old → slice_get word (get_or places i 0) ≡ Some a → Gathered word places old i out
      → Gathered word places old (i + 1) (set out i a)
  gathered_step {word} {places} {old} {out} {i} a l m e h = record {
    long = length-set out i a ∙ h.long;
    letters =
        rw (take_more places i 0 l, take_more_set out i a (omega (arith, h.long)))
        (spells_push (get_or places i 0) a h.letters e);
    rest = rest_step old out i a h.rest;
  }

  -- what is still to be read has not changed
  pub gathered_read : {word : List A} {places : List ℕ} {out : List A} {i : ℕ} (p : ℕ) → i ≤ p
      → Gathered word places word i out → slice_get out p ≡ slice_get word p
  gathered_read {word} {places} {out} {i} p l h =
      let e : i + (p - i) ≡ p = omega arith in
      ap (slice_get out) (sym e) ∙ sym (nth_drop i out (p - i)) ∙ ap (λ t. slice_get t (p - i)) h.rest ∙ nth_drop i word (p - i)
      ∙ ap (slice_get word) e
