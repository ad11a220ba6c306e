use Rattle.std.proofs.Common.{arith}
use Rattle.words.proofs.Staircase.{least_capped, said_degree}
use Rattle.words.proofs.climb.Climb.capped_degree.Goals as goal

pub overflow_add-least : goal.overflow_add-least
overflow_add-least c = let l = least_capped c.cap-cap.result c.self.inside.says.now in omega (arith, l, c.least.ensures)

pub returns : goal.returns
returns c = rw (c.min.ensures, c.least.ensures, c.cap-cap.ensures.cap, ← c.self.view_is) (said_degree c.self.invariant.said)
