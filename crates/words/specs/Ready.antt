-- What two words of ranks that are read side by side have in memory.
use Rattle.std.specs.Prelude.{◌≡◌, ℕ, ◌<◌, ◌≤◌, length, slice_index}
use Rattle.words.specs.Stairs.{Stand}
use Rattle.words.specs.Steps.{Below}
use Rattle.words.specs.declared.stairs.Pair.TheInside.{Inside}

-- the degrees are those inside the right word, both words have the same letters, and memory has what stands for the places
-- of the left word behind the one that was reached
pub record Ready (p : Inside) : Type 0 where
  pub same : p.stretches ≡ p.right.word
  pub few : length p.right.word ≤ 4096
  pub letters : p.right.letters ≡ p.left.letters
  pub few_letters : p.left.letters ≤ 8192
  pub left_letters : Below p.left.letters p.left.word
  pub right_letters : Below p.left.letters p.right.word
  pub level_room : length p.left.word < length p.levels.now
  pub stand_room : length p.left.word < length p.stands.now
  pub stood : (k : ℕ) → p.left.at < k → k ≤ length p.left.word
      → Stand p.left.word p.right.word k (slice_index p.levels.now k) (slice_index p.stands.now k)
