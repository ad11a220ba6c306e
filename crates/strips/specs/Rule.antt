-- The strip rule: from the capacity, the word and a call, what the call answers and which word it leaves.
use Rattle.std.specs.Prelude.{◌≡◌, ℕ, ◌<◌, ◌≤◌, ◌⊎◌, List, [], ◌∷◌, ◌++◌, length}
use Rattle.strips.specs.Words.{In, AtMost}

-- The calls that change a strip's word.
pub data Call (A : Type 0) : Type 0 where
  Put : A → Call A
  Take : Call A
  Clear : Call A

-- What they answer: nothing, the letter that was taken, or a refusal's number and place.
pub data Answer (A : Type 0) : Type 0 where
  Done : Answer A
  Taken : A → Answer A
  Refused : ℕ → ℕ → Answer A

-- Put's second check: the letter is present, or there are fewer than 64 different ones.
abbrev pub Admits : {A : Type 0} → A → List A → Type 0
Admits a w = In a w ⊎ AtMost 63 w

-- A call on the word w has an answer and leaves a word. The checks are made in this order, and a refusal leaves w.
pub data Rule {A : Type 0} (capacity : ℕ) (w : List A) : Call A → Answer A → List A → Type 0 where
  -- Put adds the letter at the end, if the word is shorter than the capacity and the letter is admitted.
  full : {a : A} → capacity ≤ length w → Rule capacity w (Put a) (Refused 31 (length w)) w
  crowded : {a : A} → length w < capacity → (Admits a w → ⊥) → Rule capacity w (Put a) (Refused 32 (length w)) w
  added : {a : A} → length w < capacity → Admits a w → Rule capacity w (Put a) Done (w ++ (a ∷ []))
  -- Take removes the last letter and answers it, if there is one.
  empty : w ≡ [] → Rule capacity w Take (Refused 33 (length w)) w
  removed : {v : List A} {a : A} → w ≡ v ++ (a ∷ []) → Rule capacity w Take (Taken a) v
  -- Clear leaves no letter.
  cleared : Rule capacity w Clear Done []

-- The rule leaves nothing open: two outcomes of one call on one word are the same.
abbrev pub RuleIsOne : Type 0 → Type 0
RuleIsOne A =
    (capacity : ℕ) (w : List A) (call : Call A) (answer answer' : Answer A) (v v' : List A) → Rule capacity w call answer v → Rule capacity w call answer' v'
    → (answer ≡ answer') × (v ≡ v')
