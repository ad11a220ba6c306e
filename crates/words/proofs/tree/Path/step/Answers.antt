use Rattle.std.proofs.Common.{refl, arith}
use Rattle.words.proofs.Paths.{path_room, path_step, path_turn}
use Rattle.words.proofs.tree.Path.step.Goals as goal

pub bounds-self-depth : goal.bounds-self-depth
bounds-self-depth c = rw c.depth-depth.ensures (path_room _ _ _ c.requires.inside c.requires.leads)

pub overflow_cast-self : goal.overflow_cast-self
overflow_cast-self c = omega (arith, c.requires.leads.few)

pub bounds-self-depth-2 : goal.bounds-self-depth-2
bounds-self-depth-2 c = rw c.depth-depth.ensures (path_room _ _ _ c.requires.inside c.requires.leads)

pub returns-clause-leads : goal.returns-clause-leads
returns-clause-leads c = rw c.depth-depth.ensures (path_step _ _ _ c.requires.inside c.requires.leads _ refl refl)

pub returns-clause-above : goal.returns-clause-above
returns-clause-above c = rw (c.then_some.ensures, c.depth-depth.ensures) (path_turn _ _ _ c.requires.inside c.requires.leads)
