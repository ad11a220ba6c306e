use Rattle.std.proofs.Common.{take}
use Rattle.strips.specs.Words.{In}
use Rattle.strips.proofs.kinds.is_present.Given as goal

abbrev pub invariant-loop-other : goal.invariant-loop-other
invariant-loop-other g l = In l.letter (take l.other-index l.word) → ⊥
