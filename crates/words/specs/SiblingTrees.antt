-- What a tree with siblings holds.
use Rattle.std.specs.Prelude.{◌<◌, length}
use Rattle.words.specs.RowSteps.{Siblings}
use Rattle.words.specs.declared.tree.SiblingTree.TheInside.{Inside}

-- memory has the siblings of all places
pub record Linked (t : Inside) : Type 0 where
  pub room : length t.tree < length t.siblings.now
  pub siblings : Siblings t.tree t.siblings.now
