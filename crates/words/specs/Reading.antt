-- What the private functions behind `separate` promise each other about the end part of a word of ranks that was reached.
use Rattle.std.specs.Prelude.{◌≡◌, ℕ, suc, ◌<◌, ◌≤◌, List, [], ◌∷◌, length, drop, Option, Some, None}
use Rattle.std.proofs.Math.Decide.{ℕ_discrete}
use Rattle.words.specs.Words.{Sub}
use Rattle.words.specs.Degrees.{after}

-- A word of ranks as it is read: the word, where the end part that was reached begins, and how many letters there are.
pub record Reached : Type 0 where
  pub word : List ℕ
  pub at : ℕ
  pub letters : ℕ

-- the end part that was reached
abbrev pub end_part : Reached → List ℕ
end_part r = drop r.at r.word

-- The number that memory holds for a letter `x` of the end part of `w` from `i` on: the place behind its first occurrence,
-- or 0 if it does not occur.
pub data Behind (w : List ℕ) (i x : ℕ) : ℕ → Type 0 where
  absent : ¬ Sub (x ∷ []) (drop i w) → Behind w i x 0
  behind : {j : ℕ} → i ≤ j → j < length w → Sub (x ∷ []) (drop i w) → after ℕ_discrete x (drop i w) ≡ drop (suc j) w
      → Behind w i x (suc j)

-- the place behind the first occurrence of a letter `x` in the end part that was reached, none if it does not occur
abbrev pub PlaceBehind : Reached → ℕ → Option ℕ → Type 0
PlaceBehind r x None = ¬ Sub (x ∷ []) (end_part r)
PlaceBehind r x (Some n) =
    (r.at < n) × (n ≤ length r.word) × Sub (x ∷ []) (end_part r) × (after ℕ_discrete x (end_part r) ≡ drop n r.word)
