-- What the private functions behind `separate` promise each other about their memory. Words are lists of ranks here, plain
-- numbers; `s` and `t` are the two words, and `t` is no longer than `s`.
use Rattle.std.specs.Prelude.{Option, Some, None, ℕ, suc, ◌+◌, ◌<◌, ◌≤◌, List, length, slice_index}
use Rattle.std.proofs.Math.Decide.{ℕ_discrete}
use Rattle.words.specs.Places.{Paired, Sibling}

-- Degrees are counted up to this: a degree to a word `t` that reaches it says that the words are equal.
abbrev pub cap : List ℕ → ℕ
cap t = length t + 2

-- ── Places in memory ──

-- The number that memory holds for a place with the property `P`: one more than the place, or 0 if there is none.
pub data Found (P : ℕ → Type 0) : ℕ → Type 0 where
  nowhere : ((j : ℕ) → ¬ P j) → Found P 0
  found : {j : ℕ} → P j → Found P (suc j)

-- What a search for a place with the property `P` gives.
abbrev pub Finds : (ℕ → Type 0) → Option ℕ → Type 0
Finds P None = (j : ℕ) → ¬ P j
Finds P (Some j) = P j

-- the number that memory holds for a place, if there is one
abbrev pub held : Option ℕ → ℕ
held None = 0
held (Some j) = j + 1

-- memory has for each place of `t` its sibling
pub record Siblings (t memory : List ℕ) : Type 0 where
  pub at : (q : ℕ) → Found (Sibling ℕ_discrete t q) (slice_index memory q)

-- memory has for each place of `s` its partner in `t`
pub record Partners (s t memory : List ℕ) : Type 0 where
  pub at : (i : ℕ) → i ≤ length s → Found (Paired ℕ_discrete s t i) (slice_index memory i)

-- memory has so far the partners of the places from `i` on
pub record PartnersFrom (s t : List ℕ) (i : ℕ) (memory : List ℕ) : Type 0 where
  pub room : length s < length memory
  pub at : (k : ℕ) → i ≤ k → k ≤ length s → Found (Paired ℕ_discrete s t k) (slice_index memory k)
