-- What the sparse table of a word holds.
use Rattle.std.specs.Prelude.{◌≡◌, ℕ, ◌+◌, ◌*◌, ◌^◌, ◌<◌, ◌≤◌, List, length, take, drop, slice_index}
use Rattle.std.proofs.Math.Decide.{ℕ_discrete}
use Rattle.words.specs.Degrees.{Degree}
use Rattle.words.specs.RowSteps.{cap}
use Rattle.words.specs.Steps.{rights}
use Rattle.words.specs.declared.stretches.Stretches.TheInside.{Inside}

-- a row of the table: for each place of `t` the degree of the end parts there and `size` places later
pub record Row (t : List ℕ) (size : ℕ) (row : List ℕ) : Type 0 where
  pub at : (j : ℕ) → j < length t → Degree (cap t) (slice_index row j) (drop j t) (drop (j + size) t)

-- so many such rows one after the other, for 1, 2, 4 and so on places, of which the first has the coordinates
pub record Rows (t : List ℕ) (count : ℕ) (table : List ℕ) : Type 0 where
  pub first : take (length t) table ≡ rights ℕ_discrete t
  pub row : (k : ℕ) → k < count → Row t (2 ^ k) (drop (k * length t) table)

-- the word is short enough for the table, and the table has all its rows
pub record Filled (s : Inside) : Type 0 where
  pub few : length s.word.now ≤ 4096
  pub room : 13 * length s.word.now ≤ length s.table.now
  pub rows : Rows s.word.now 13 s.table.now
