use Rattle.std.proofs.Common.{◌≡◌, min, ◌++◌, map, take, drop}
use Rattle.words.proofs.vector.lower.Given as goal

abbrev pub invariant-loop-x : goal.invariant-loop-x
invariant-loop-x l =
    l.vector ≡ map (λ x. min x l.most) (take l.x-index l.initial.vector) ++ drop l.x-index l.initial.vector
