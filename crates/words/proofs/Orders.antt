-- The order in which words are tried is a strict total order, if that of the letters is; so the first telling row of two
-- words and the form of a word are each one word.
use Rattle.std.proofs.Common.{◌≡◌, ℕ, ◌<◌, ◌⊎◌, List, [], ◌∷◌, length, sym, refl, subst, inl, inr, ⊎_elim, arith}
use native.Mathlib.Decide.{dec_lt}
use mathlib.Core.List.{head-eq_of_cons-eq, tail-eq_of_cons-eq, List-discrete}
use Rattle.words.specs.Words.{Order, LexBefore, here, there, Earlier, FirstTelling, IsForm}

module _ {A : Type 0} {lt : A → A → Type 0} (order : Order lt) where
  -- ── Words of one length, as in a dictionary ──

  pub lex_different : {u v : List A} → LexBefore lt u v → ¬ (u ≡ v)
  lex_different (here {a = a} h) e = order.irreflexive (subst (lt a) (sym (head-eq_of_cons-eq e)) h)
  lex_different (there h) e = lex_different h (tail-eq_of_cons-eq e)

  pub lex_irreflexive : {u : List A} → ¬ LexBefore lt u u
  lex_irreflexive h = lex_different h refl

  pub lex_trans : {u v w : List A} → LexBefore lt u v → LexBefore lt v w → LexBefore lt u w
  lex_trans (here h) (here k) = here (order.transitive h k)
  lex_trans (here h) (there k) = here h
  lex_trans (there h) (here k) = here k
  lex_trans (there {u = u} h) (there k) = there (lex_trans {u = u} h k)

  pub lex_asymmetric : {u v : List A} → LexBefore lt u v → ¬ LexBefore lt v u
  lex_asymmetric h k = lex_irreflexive (lex_trans h k)

  -- ── All words, the shorter first ──

  pub earlier_irreflexive : {z : List A} → ¬ Earlier lt z z
  earlier_irreflexive (inl h) = omega arith
  earlier_irreflexive (inr h) = lex_irreflexive h.1

  pub earlier_trans : {u v w : List A} → Earlier lt u v → Earlier lt v w → Earlier lt u w
  earlier_trans (inl h) (inl k) = inl (omega arith)
  earlier_trans (inl h) (inr k) = inl (omega arith)
  earlier_trans (inr h) (inl k) = inl (omega arith)
  earlier_trans (inr h) (inr k) = inr (omega arith, lex_trans h.1 k.1)

  pub earlier_asymmetric : {u v : List A} → Earlier lt u v → ¬ Earlier lt v u
  earlier_asymmetric h k = earlier_irreflexive (earlier_trans h k)

  -- Over letters whose equality is decided.
  module _ (eq : (x y : A) → Dec (x ≡ y)) where
    pub before? : (a b : A) → Dec (lt a b)
    before? a b = go (eq a b)
      where
        go : Dec (a ≡ b) → Dec (lt a b)
        go (yes e) = no (λ h. order.irreflexive (subst (lt a) (sym e) h))
        go (no n) = ⊎_elim yes (λ h. no (λ l. order.irreflexive (order.transitive h l))) (order.total n)

    pub lex_total : (u v : List A) → length u ≡ length v → ¬ (u ≡ v) → LexBefore lt u v ⊎ LexBefore lt v u
    lex_total [] [] l n = absurd (n refl)
    lex_total [] (b ∷ v) l n = absurd (omega arith)
    lex_total (a ∷ u) [] l n = absurd (omega arith)
    lex_total (a ∷ u) (b ∷ v) l n = go (eq a b) (lex_total u v (omega arith))
      where
        go : Dec (a ≡ b) → (¬ (u ≡ v) → LexBefore lt u v ⊎ LexBefore lt v u)
            → LexBefore lt (a ∷ u) (b ∷ v) ⊎ LexBefore lt (b ∷ v) (a ∷ u)
        go (yes e) f = rw e (⊎_elim (λ h. inl (there h)) (λ h. inr (there h)) (f (λ d. n (cc (e, d)))))
        go (no d) f = ⊎_elim (λ h. inl (here h)) (λ h. inr (here h)) (order.total d)

    pub earlier_total : (u v : List A) → ¬ (u ≡ v) → Earlier lt u v ⊎ Earlier lt v u
    earlier_total u v n = go (dec_lt (length u) (length v)) (dec_lt (length v) (length u))
      where
        go : Dec (length u < length v) → Dec (length v < length u) → Earlier lt u v ⊎ Earlier lt v u
        go (yes h) k = inl (inl h)
        go (no h) (yes k) = inr (inl k)
        go (no h) (no k) =
            let l : length u ≡ length v = omega arith in
            ⊎_elim (λ b. inl (inr (l, b))) (λ b. inr (inr (sym l, b))) (lex_total u v l n)

    -- ── The first of its kind is one word ──

    -- two words of which each, if they differ, is the earlier one
    unique : (u v : List A) → (¬ (u ≡ v) → Earlier lt u v) → (¬ (v ≡ u) → Earlier lt v u) → u ≡ v
    unique u v f g = go (List-discrete eq u v)
      where
        go : Dec (u ≡ v) → u ≡ v
        go (yes e) = e
        go (no n) = absurd (earlier_asymmetric (f n) (g (λ e. n (sym e))))

    pub first_telling_unique : {y z u v : List A} → FirstTelling lt y u v → FirstTelling lt z u v → y ≡ z
    first_telling_unique {y} {z} f g = unique y z (f.1 z g.0) (g.1 y f.0)

    pub form_unique : {k : ℕ} {w f g : List A} → IsForm lt k w f → IsForm lt k w g → f ≡ g
    form_unique {f = f} {g = g} h i = unique f g (h.1 g i.0) (i.1 f h.0)
