-- What the order of the letters decides: whether two letters are the same, whether one occurs in a word, and so what the
-- different letters of a word are.
use Rattle.std.proofs.Common.{◌≡◌, ℕ, ◌+◌, ◌<◌, true, false, ◌⊎◌, List, [], ◌∷◌, length, get_or, take, Decides, Ordering, Less, Equal, Greater, sym, refl, ◌∙◌, subst, inl, inr, ⊎_elim, arith}
use mathlib.Core.Logic.{∥∥₁_elim}
use native.Mathlib.Bridge.{le_prop}
use Rattle.strips.specs.Words.{In, AtMost}
use Rattle.strips.proofs.Letters.{Different, in_front, in_more, in_place, no_more}

pub yes : {P : Type 0} → P → Decides true P
yes p = (λ _. p, λ _. refl)

pub no : {P : Type 0} → (P → ⊥) → Decides false P
no not = (λ e. absurd (let z : ◌≡◌ {A = ℕ} 0 1 = cc in omega arith), λ p. absurd (not p))

module _ {A : Type 0} (o : A → A → Ordering) (same : (a b : A) → o a b ≡ Equal → a ≡ b) (itself : (a : A) → o a a ≡ Equal) where
  differ : (a b : A) (x : Ordering) → o a b ≡ x → (x ≡ Equal → ⊥) → a ≡ b → ⊥
  differ a b x e other k = other (sym e ∙ subst (λ y. o a y ≡ Equal) k (itself a))

  alike : (a b : A) (x : Ordering) → o a b ≡ x → (a ≡ b) ⊎ (a ≡ b → ⊥)
  alike a b Less e = inr (differ a b Less e (λ k. let z : ◌≡◌ {A = ℕ} 0 1 = cc in omega arith))
  alike a b Equal e = inl (same a b e)
  alike a b Greater e = inr (differ a b Greater e (λ k. let z : ◌≡◌ {A = ℕ} 0 1 = cc in omega arith))

  occurs : (a : A) (w : List A) → In a w ⊎ (In a w → ⊥)
  occurs a [] = inr (λ h. h)
  occurs a (b ∷ w) = ⊎_elim (λ e. inl (inl e)) (λ other. ⊎_elim (λ h. inl (inr h)) (λ none. inr (⊎_elim other none)) (occurs a w)) (alike a b (o a b) refl)

  -- The different letters of a word.
  record Kinds (w : List A) : Type 0 where
    letters : List A
    different : Different letters
    all : (a : A) → In a w → In a letters
    only : (a : A) → In a letters → In a w

  kinds : (w : List A) → Kinds w
  kinds [] = record { letters = []; different = tt; all = λ a h. h; only = λ a h. h }
  kinds (b ∷ w) =
      let below = kinds w in
      ⊎_elim
      (λ here. record {
        letters = below.letters;
        different = below.different;
        all = λ a h. ⊎_elim (λ e. subst (λ x. In x below.letters) (sym e) (below.all b here)) (below.all a) h;
        only = λ a h. inr (below.only a h);
      })
      (λ new. record {
        letters = b ∷ below.letters;
        different = (λ h. new (below.only b h), below.different);
        all = λ a h. ⊎_elim inl (λ k. inr (below.all a k)) h;
        only = λ a h. ⊎_elim inl (λ k. inr (below.only a k)) h;
      })
      (occurs b w)

  -- So the letters can be named where it is only known that there are few.
  pub at_most_known : (n : ℕ) (w : List A) → ∥ AtMost n w ∥₁ → AtMost n w
  at_most_known n w h =
      let few = kinds w in (
        few.letters,
        ∥∥₁_elim h le_prop (λ k. let most = no_more few.letters k.0 few.different (λ a l. k.2 a (few.only a l)) in omega (arith, most, k.1)),
        few.all,
      )

  -- A scan of the word for a letter: the place that it has come to holds the letter,
  pub scan_found : (w : List A) (i : ℕ) (a b : A) → i < length w → b ≡ get_or w i b → o b a ≡ Equal → In a w
  scan_found w i a b inside e equal = in_front a (i + 1) w (subst (λ x. In x (take (i + 1) w)) (same b a equal) (in_place w i b inside e))

  -- or another one.
  pub scan_more : (w : List A) (i : ℕ) (a b : A) → i < length w → b ≡ get_or w i b → (o b a ≡ Equal → ⊥) → (In a (take i w) → ⊥) → In a (take (i + 1) w) → ⊥
  scan_more w i a b inside e other none h = ⊎_elim none (λ k. other (subst (λ x. o b x ≡ Equal) (sym k) (itself b))) (in_more a w i b inside e h)
