-- Which letters occur in a word, and how many: different letters of a word are at most as many as the letters that name it all.
use Rattle.std.proofs.Common.{◌≡◌, ℕ, suc, ◌+◌, ◌<◌, ◌≤◌, ◌⊎◌, List, [], ◌∷◌, ◌++◌, length, get_or, take, drop, sym, refl, ap, ◌∙◌, subst, inl, inr, ⊎_elim, arith}
use Rattle.std.proofs.lemmas.List.{take-append-drop, take_more}
use Rattle.strips.specs.Words.{In, AtMost}

-- No letter stands twice.
abbrev pub Different : {A : Type 0} → List A → Type 0
Different [] = Unit {0}
Different (a ∷ l) = (In a l → ⊥) × Different l

module _ {A : Type 0} where
  pub in_left : (a : A) (w v : List A) → In a w → In a (w ++ v)
  in_left a [] v h = absurd h
  in_left a (b ∷ w) v (inl e) = inl e
  in_left a (b ∷ w) v (inr h) = inr (in_left a w v h)

  pub in_right : (a : A) (w v : List A) → In a v → In a (w ++ v)
  in_right a [] v h = h
  in_right a (b ∷ w) v h = inr (in_right a w v h)

  pub in_parts : (a : A) (w v : List A) → In a (w ++ v) → In a w ⊎ In a v
  in_parts a [] v h = inr h
  in_parts a (b ∷ w) v (inl e) = inl (inl e)
  in_parts a (b ∷ w) v (inr h) = ⊎_elim (λ l. inl (inr l)) inr (in_parts a w v h)

  pub in_last : (a : A) (w : List A) → In a (w ++ (a ∷ []))
  in_last a w = in_right a w (a ∷ []) (inl refl)

  pub in_front : (a : A) (n : ℕ) (w : List A) → In a (take n w) → In a w
  in_front a n w h = subst (In a) (take-append-drop n w) (in_left a (take n w) (drop n w) h)

  -- One place more.
  pub in_more : (a : A) (w : List A) (i : ℕ) (b : A) → i < length w → b ≡ get_or w i b → In a (take (i + 1) w) → In a (take i w) ⊎ (a ≡ b)
  in_more a w i b inside e h =
      ⊎_elim inl (⊎_elim (λ same. inr (same ∙ sym e)) (λ no_letter. absurd no_letter)) (in_parts a (take i w) (get_or w i b ∷ []) (subst (In a) (take_more w i b inside) h))

  pub in_place : (w : List A) (i : ℕ) (b : A) → i < length w → b ≡ get_or w i b → In b (take (i + 1) w)
  in_place w i b inside e =
      subst (In b) (sym (take_more w i b inside)) (in_right b (take i w) (get_or w i b ∷ []) (inl e))

  -- A word with the letter cut out of it has all its other letters.
  record Cut (a : A) (w : List A) : Type 0 where
    rest : List A
    shorter : length w ≡ suc (length rest)
    others : (b : A) → (b ≡ a → ⊥) → In b w → In b rest

  cut : (a : A) (w : List A) → In a w → Cut a w
  cut a [] h = absurd h
  cut a (b ∷ w) (inl e) = record { rest = w; shorter = refl; others = λ c other h. ⊎_elim (λ same. absurd (other (same ∙ sym e))) (λ k. k) h }
  cut a (b ∷ w) (inr h) =
      let below = cut a w h in
      record { rest = b ∷ below.rest; shorter = ap suc below.shorter; others = λ c other k. ⊎_elim inl (λ l. inr (below.others c other l)) k }

  -- Different letters that all occur in w are at most as many as the letters of w.
  pub no_more : (ls w : List A) → Different ls → ((a : A) → In a ls → In a w) → length ls ≤ length w
  no_more [] w d h = omega arith
  no_more (a ∷ ls) w (new, d) h =
      let c = cut a w (h a (inl refl)) in
      let below = no_more ls c.rest d (λ b k. c.others b (λ e. new (subst (λ x. In x ls) e k)) (h b (inr k))) in
      omega (arith, c.shorter, below)

  pub different_push : (ls : List A) (a : A) → Different ls → (In a ls → ⊥) → Different (ls ++ (a ∷ []))
  different_push [] a d new = (λ h. h, tt)
  different_push (b ∷ ls) a (n, d) new =
      (λ h. ⊎_elim n (⊎_elim (λ e. new (inl (sym e))) (λ none. none)) (in_parts b ls (a ∷ []) h), different_push ls a d (λ h. new (inr h)))

  -- A word has at most as many different letters as one that has its letters.
  pub at_most_less : (n : ℕ) (v w : List A) → ((a : A) → In a v → In a w) → AtMost n w → AtMost n v
  at_most_less n v w h (ls, small, names) = (ls, small, λ a k. names a (h a k))

  pub at_most_front : (n i : ℕ) (w : List A) → AtMost n w → AtMost n (take i w)
  at_most_front n i w = at_most_less n (take i w) w (λ a. in_front a i w)

  pub at_most_none : (n : ℕ) → AtMost {A = A} n []
  at_most_none n = ([], omega arith, λ a h. h)

  -- One letter more, which is there already or new.
  pub at_most_same : (n : ℕ) (w : List A) (a : A) → In a w → AtMost n w → AtMost n (w ++ (a ∷ []))
  at_most_same n w a here (ls, small, names) =
      (ls, small, λ b h. ⊎_elim (names b) (⊎_elim (λ e. subst (λ x. In x ls) (sym e) (names a here)) (λ none. absurd none)) (in_parts b w (a ∷ []) h))

  pub at_most_more : (n : ℕ) (w : List A) (a : A) → AtMost n w → AtMost (n + 1) (w ++ (a ∷ []))
  at_most_more n w a (ls, small, names) =
      (a ∷ ls, omega arith, λ b h. ⊎_elim (λ l. inr (names b l)) (⊎_elim inl (λ none. absurd none)) (in_parts b w (a ∷ []) h))
