-- What the memory of a word of ranks that is read has.
use Rattle.std.specs.Prelude.{ℕ, suc, ◌<◌, ◌≤◌, length, slice_index}
use Rattle.words.specs.Steps.{Below}
use Rattle.words.specs.Reading.{Behind}
use Rattle.words.specs.declared.reading.Reading.TheInside.{Inside}

-- memory has for each letter the place behind it in the end part that was reached, and for each place of the end part the
-- place that the letter there had before
pub record Reads (r : Inside) : Type 0 where
  pub few : length r.word.now ≤ 4096
  pub inside : r.at ≤ length r.word.now
  pub letters : Below (length r.heads.now) r.word.now
  pub room : length r.word.now ≤ length r.links.now
  pub heads : (x : ℕ) → Behind r.word.now r.at x (slice_index r.heads.now x)
  pub links : (k : ℕ) → r.at ≤ k → k < length r.word.now
      → Behind r.word.now (suc k) (slice_index r.word.now k) (slice_index r.links.now k)
