-- Words are lists of letters of any type `A`. What it means that a word lies in another, that two words agree on all short
-- words, that a word tells two words apart, and that it is the first to do so; and the form of a word.
use Rattle.std.specs.Prelude.{◌≡◌, ℕ, ◌<◌, ◌≤◌, ◌⊎◌, List, [], ◌∷◌, length}

-- `Sub u w`: `u` is a subsequence of `w`, that is, `w` with some of its letters left out. Read from the front, each letter
-- of `w` is skipped, or it is the next letter of `u` and kept in both.
pub data Sub {A : Type 0} : List A → List A → Type 0 where
  done : Sub [] []
  skip : {a : A} {u w : List A} → Sub u w → Sub u (a ∷ w)
  keep : {a : A} {u w : List A} → Sub u w → Sub (a ∷ u) (a ∷ w)

-- every subsequence of `u` of at most `k` letters is one of `v`
abbrev pub Within : {A : Type 0} → ℕ → List A → List A → Type 0
Within {A} k u v = (z : List A) → length z ≤ k → Sub z u → Sub z v

-- `u` and `v` have the same subsequences of at most `k` letters
abbrev pub Congruent : {A : Type 0} → ℕ → List A → List A → Type 0
Congruent k u v = Within k u v × Within k v u

-- `z` tells `u` from `v`: it is a subsequence of `u` and not of `v`
abbrev pub Tells : {A : Type 0} → List A → List A → List A → Type 0
Tells z u v = Sub z u × (¬ Sub z v)

-- `z` is a telling row of `u` and `v`: it is a subsequence of exactly one of them
abbrev pub Telling : {A : Type 0} → List A → List A → List A → Type 0
Telling z u v = Tells z u v ⊎ Tells z v u

-- the laws of an order `lt` of the letters: no letter is before itself, what is before a letter is before all that comes
-- after it, and of two different letters one is before the other
pub record Order {A : Type 0} (lt : A → A → Type 0) : Type 0 where
  pub irreflexive : {a : A} → ¬ lt a a
  pub transitive : {a b c : A} → lt a b → lt b c → lt a c
  pub total : {a b : A} → ¬ (a ≡ b) → lt a b ⊎ lt b a

-- at the first place where the two words differ, the first has the letter that is before the other's
pub data LexBefore {A : Type 0} (lt : A → A → Type 0) : List A → List A → Type 0 where
  here : {a b : A} {u v : List A} → lt a b → LexBefore lt (a ∷ u) (b ∷ v)
  there : {a : A} {u v : List A} → LexBefore lt u v → LexBefore lt (a ∷ u) (a ∷ v)

-- the order in which words are tried: a shorter word is earlier than a longer one, and words of one length go as in a
-- dictionary
abbrev pub Earlier : {A : Type 0} → (A → A → Type 0) → List A → List A → Type 0
Earlier lt z z' = (length z < length z') ⊎ ((length z ≡ length z') × LexBefore lt z z')

-- `z` is the first telling row of `u` and `v`: it is one, and it is earlier than every other
abbrev pub FirstTelling : {A : Type 0} → (A → A → Type 0) → List A → List A → List A → Type 0
FirstTelling {A} lt z u v = Telling z u v × ((z' : List A) → Telling z' u v → ¬ (z ≡ z') → Earlier lt z z')

-- `f` is the form of `w` at `k`: it has the same subsequences of at most `k` letters as `w`, and it is earlier than every
-- other word that has them
abbrev pub IsForm : {A : Type 0} → (A → A → Type 0) → ℕ → List A → List A → Type 0
IsForm {A} lt k w f = Congruent k w f × ((v : List A) → Congruent k w v → ¬ (f ≡ v) → Earlier lt f v)
