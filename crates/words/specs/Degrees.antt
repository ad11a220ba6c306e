-- What the private functions behind `separate` promise each other: up to which level two words agree, and how that is found
-- letter by letter, or from one end part that stands for many.
use Rattle.std.specs.Prelude.{◌≡◌, ℕ, ◌<◌, ◌≤◌, ◌↔◌, List, [], ◌∷◌}
use Rattle.std.proofs.Math.Logic.{ite}
use Rattle.words.specs.Words.{Sub, Congruent}

-- The levels below `K` at which the words agree are just those below `d`: `d` is the length of a shortest telling row, or
-- `K` if there is none of fewer letters.
abbrev pub Degree : {A : Type 0} → ℕ → ℕ → List A → List A → Type 0
Degree K d u v = (d ≤ K) × ((k : ℕ) → k < K → Congruent k u v ↔ (k < d))

-- `Tail w t`: `w` is an end part of `t`
pub data Tail {A : Type 0} : List A → List A → Type 0 where
  whole : {t : List A} → Tail t t
  rest : {a : A} {w t : List A} → Tail w t → Tail w (a ∷ t)

-- `u` agrees with the end part `g` of `t` at all levels below `E`, and with no end part of `t` at a level from `E` to below
-- the cap
pub record StandsFor {A : Type 0} (K E : ℕ) (u g t : List A) : Type 0 where
  pub capped : E ≤ K
  pub part : Tail g t
  pub agrees : (l : ℕ) → l < E → Congruent l u g
  pub alone : (l : ℕ) → l < K → E ≤ l → (w : List A) → Tail w t → ¬ Congruent l u w

module _ {A : Type 0} (eq : (x y : A) → Dec (x ≡ y)) where
  -- what follows the first `a` of a word; nothing if there is none
  unfoldable pub after : A → List A → List A
  after a [] = []
  after a (c ∷ w) = ite (eq a c) w (after a w)

  -- What a letter `x` says about two words: the degree of what follows the first `x` in each if both have it, 0 if only one
  -- has it, and the cap if none has it.
  pub data Follow (K : ℕ) (x : A) (u v : List A) : ℕ → Type 0 where
    both : {d : ℕ} → Sub (x ∷ []) u → Sub (x ∷ []) v → Degree K d (after x u) (after x v) → Follow K x u v d
    first_only : Sub (x ∷ []) u → ¬ Sub (x ∷ []) v → Follow K x u v 0
    second_only : ¬ Sub (x ∷ []) u → Sub (x ∷ []) v → Follow K x u v 0
    neither : ¬ Sub (x ∷ []) u → ¬ Sub (x ∷ []) v → Follow K x u v K
