-- Letters in words, by meaning alone: nothing here knows an order of letters.
use Rattle.std.specs.Prelude.{◌≡◌, ℕ, ◌≤◌, ◌⊎◌, List, [], ◌∷◌, length}

-- The letter occurs in the word.
abbrev pub In : {A : Type 0} → A → List A → Type 0
In a [] = ⊥
In a (b ∷ w) = (a ≡ b) ⊎ In a w

-- The word has at most n different letters: no more than n letters suffice to name all that occur in it.
abbrev pub AtMost : {A : Type 0} → ℕ → List A → Type 0
AtMost {A} n w = (ls : List A) × (length ls ≤ n) × ((a : A) → In a w → In a ls)
