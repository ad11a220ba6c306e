-- What a word holds that is seen as a tree.
use Rattle.std.specs.Prelude.{◌≡◌, ◌≤◌, length}
use Rattle.std.proofs.Math.Decide.{ℕ_discrete}
use Rattle.words.specs.Steps.{rights}
use Rattle.words.specs.declared.tree.Tree.TheInside.{Inside}

-- the word is short enough, and its depths are in memory
pub record Grown (t : Inside) : Type 0 where
  pub few : length t.word.now ≤ 4096
  pub depths : t.depths.now ≡ rights ℕ_discrete t.word.now
