-- Collecting the different letters of a word, one place of the word after the other.
use Rattle.std.proofs.Common.{◌≡◌, ℕ, ◌+◌, ◌<◌, ◌≤◌, List, [], ◌∷◌, ◌++◌, length, get_or, take, set, sym, ◌∙◌, subst, inl, ⊎_elim, arith, length-set}
use Rattle.std.proofs.lemmas.List.{take_more_set, length-take-le, take_all}
use Rattle.strips.specs.Words.{In, AtMost}
use Rattle.strips.proofs.Letters.{Different, in_left, in_right, in_parts, in_front, in_more, in_place, no_more, different_push}

-- After i places of w, the first letters of `found`, which has n places, are the different letters met.
pub record Collected {A : Type 0} (w : List A) (n i : ℕ) (found : List A) (count : ℕ) : Type 0 where
  pub size : length found ≡ n
  pub within : count ≤ n
  pub different : Different (take count found)
  pub all : (a : A) → In a (take i w) → In a (take count found)
  pub only : (a : A) → In a (take count found) → In a w

module _ {A : Type 0} (w : List A) (n : ℕ) where
  pub collected_none : (found : List A) → length found ≡ n → Collected w n 0 found 0
  collected_none found e = record { size = e; within = omega arith; different = tt; all = λ a h. absurd h; only = λ a h. absurd h }

  module _ (i : ℕ) (found : List A) (count : ℕ) (c : Collected w n i found count) (b : A) (inside : i < length w) (e : b ≡ get_or w i b) where
    -- The next letter was met before;
    pub collected_same : In b (take count found) → Collected w n (i + 1) found count
    collected_same h =
        record {
          size = c.size;
          within = c.within;
          different = c.different;
          all = λ a k. ⊎_elim (c.all a) (λ same. subst (λ x. In x (take count found)) (sym same) h) (in_more a w i b inside e k);
          only = c.only;
        }

    -- or it is new and finds a place;
    pub collected_new : (In b (take count found) → ⊥) → count < n → Collected w n (i + 1) (set found count b) (count + 1)
    collected_new new room =
        let more : take (count + 1) (set found count b) ≡ take count found ++ (b ∷ []) = take_more_set found count b (omega (arith, c.size)) in
        record {
          size = length-set found count b ∙ c.size;
          within = omega arith;
          different = subst Different (sym more) (different_push (take count found) b c.different new);
          all = λ a k. subst (In a) (sym more) (⊎_elim (λ l. in_left a (take count found) (b ∷ []) (c.all a l)) (λ same. in_right a (take count found) (b ∷ []) (inl same)) (in_more a w i b inside e k));
          only = λ a k. ⊎_elim (c.only a) (⊎_elim (λ same. subst (λ x. In x w) (sym same) (in_front b (i + 1) w (in_place w i b inside e))) (λ none. absurd none))
              (in_parts a (take count found) (b ∷ []) (subst (In a) more k));
        }

    -- or it is one too many.
    pub collected_over : (In b (take count found) → ⊥) → count ≡ n → AtMost n w → ⊥
    collected_over new full (ls, small, names) =
        let most = no_more (b ∷ take count found) ls (new, c.different)
        (λ a h. names a (⊎_elim (λ same. subst (λ x. In x w) (sym same) (in_front b (i + 1) w (in_place w i b inside e))) (c.only a) h)) in
        omega (arith, most, small, length-take-le count found (omega (arith, c.size, c.within)))

  pub collected_all : (i : ℕ) (found : List A) (count : ℕ) → Collected w n i found count → length w ≤ i → AtMost n w
  collected_all i found count c end =
      (take count found, omega (arith, length-take-le count found (omega (arith, c.size, c.within)), c.within), λ a h. c.all a (subst (In a) (sym (take_all i w end)) h))
