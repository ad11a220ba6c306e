use Rattle.std.proofs.Common.{refl, arith}
use Rattle.words.proofs.Scans.{ahead_none}
use Rattle.words.proofs.vector.Coordinates.clear.Goals as goal

pub returns-clause-ahead : goal.returns-clause-ahead
returns-clause-ahead c = ahead_none _ (λ x l. c.fill.ensures.clones x 0 (omega arith) refl)
