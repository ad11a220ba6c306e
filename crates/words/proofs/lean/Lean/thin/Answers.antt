use Rattle.std.proofs.Common.{length}
use Rattle.words.proofs.Passing.{rest_below}
use Rattle.words.proofs.lean.Lean.thin.Goals as goal

pub invariant_of-kept-clause-ranks : goal.invariant_of-kept-clause-ranks
invariant_of-kept-clause-ranks c =
    let kept = c.keep_needed-first in
    rest_below (length kept.new.self.places.now) kept.result kept.new.self.ranks.now kept.new.self.long.0
    (rw kept.ensures.same at kept.new.coordinates.ranks) kept.ensures.lean
