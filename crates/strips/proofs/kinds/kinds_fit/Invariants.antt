use Rattle.std.proofs.Common.{length}
use Rattle.strips.proofs.Collecting.{Collected}
use Rattle.strips.proofs.kinds.kinds_fit.Given as goal

abbrev pub invariant-loop-letter : goal.invariant-loop-letter
invariant-loop-letter g l = Collected l.word (length l.initial.found) l.letter-index l.found l.count
