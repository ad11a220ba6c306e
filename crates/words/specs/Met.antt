-- What the climb has in memory.
use Rattle.std.specs.Prelude.{◌≡◌, length}
use Rattle.words.specs.Reading.{end_part}
use Rattle.words.specs.RowSteps.{cap}
use Rattle.words.specs.Stairs.{Said}
use Rattle.words.specs.declared.climb.Climb.TheInside.{Inside}

-- memory has for each letter what it says of the end parts that were reached
pub record Met (c : Inside) : Type 0 where
  pub size : length c.says.now ≡ c.pair.left.letters
  pub said : Said (cap c.pair.right.word) c.says.now (end_part c.pair.left) (end_part c.pair.right)
