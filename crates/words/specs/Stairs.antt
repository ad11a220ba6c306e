-- What the private functions behind `separate` promise each other about the staircase.
use Rattle.std.specs.Prelude.{◌≡◌, ℕ, ◌<◌, ◌≤◌, List, length, drop, Option, Some, None, slice_index_or}
use Rattle.std.proofs.Math.Decide.{ℕ_discrete}
use Rattle.words.specs.Degrees.{Degree, Follow, StandsFor}
use Rattle.words.specs.Places.{Paired}
use Rattle.words.specs.Reading.{Reached}
use Rattle.words.specs.RowSteps.{cap}

-- two words of ranks as they are read side by side
pub record Ends : Type 0 where
  pub left : Reached
  pub right : Reached

-- the end part of `t` from the place `stand` on stands, up to `level`, for the end part of `s` from `i` on
pub record Stand (s t : List ℕ) (i level stand : ℕ) : Type 0 where
  pub inside : stand ≤ length t
  pub stands : StandsFor (cap t) level (drop i s) (drop stand t) t

-- the partner in `t` of the place `i` of `s`, none if it has none
abbrev pub PartnerOf : List ℕ → List ℕ → ℕ → Option ℕ → Type 0
PartnerOf s t i None = (j : ℕ) → ¬ Paired ℕ_discrete s t i j
PartnerOf s t i (Some j) = Paired ℕ_discrete s t i j

-- `j` is the partner of some place of `s` from `i` on: where the right word was read up to
pub record PartnerFrom (s t : List ℕ) (i j : ℕ) : Type 0 where
  pub place : ℕ
  pub from : i ≤ place
  pub inside : place ≤ length s
  pub paired : Paired ℕ_discrete s t place j

-- memory has what each letter says of two words, and a letter that it has no place for says the cap
pub record Said (K : ℕ) (memory u v : List ℕ) : Type 0 where
  pub says : (x : ℕ) → Follow ℕ_discrete K x u v (slice_index_or memory x K)

-- the degree of two words, none if they are equal
abbrev pub DegreeOf : ℕ → List ℕ → List ℕ → Option ℕ → Type 0
DegreeOf K u v None = u ≡ v
DegreeOf K u v (Some d) = (0 < d) × (d < K) × Degree K d u v
