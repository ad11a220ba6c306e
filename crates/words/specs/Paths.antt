-- What a path holds: the places above a place, while a word is read from right to left.
use Rattle.std.specs.Prelude.{◌≡◌, ℕ, suc, ◌<◌, ◌≤◌, List, length, slice_index, Option, Some, None}
use Rattle.std.proofs.Math.Decide.{ℕ_discrete}
use Rattle.words.specs.Places.{depth, StopsAt, Above}
use Rattle.words.specs.declared.tree.Path.{Path}

-- for each depth up to that of the place `i` the path has the place where one stops from `i` on
pub record Leads (w : List ℕ) (i : ℕ) (p : Path) : Type 0 where
  pub few : length w ≤ 4096
  pub room : length w < length p.places.now
  pub depth_is : p.depth ≡ depth ℕ_discrete w i
  pub stops : (d : ℕ) → d ≤ depth ℕ_discrete w i → StopsAt ℕ_discrete w d i (slice_index p.places.now d)

-- The place above the place `i`: `k` is as deep as `i`; or if there is no such, it is the next place, and one less deep.
abbrev pub Turn : List ℕ → ℕ → Option ℕ → Type 0
Turn w i (Some k) = Above ℕ_discrete w i k × (depth ℕ_discrete w i ≡ depth ℕ_discrete w k)
Turn w i None = Above ℕ_discrete w i (suc i) × (depth ℕ_discrete w i ≡ suc (depth ℕ_discrete w (suc i)))
