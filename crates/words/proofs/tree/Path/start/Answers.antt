use Rattle.std.proofs.Common.{refl}
use Rattle.words.proofs.Paths.{path_start}
use Rattle.words.proofs.tree.Path.start.Goals as goal

pub returns : goal.returns
returns c = path_start _ _ _ c.len.ensures.few c.requires (rw c.len.ensures.result refl) refl
