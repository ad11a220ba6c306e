use Rattle.std.proofs.Common.{◌≡◌, ◌+◌, ◌-◌}
use Rattle.words.proofs.climb.Climb.walk_right.Given as goal

abbrev pub invariant-loop : goal.invariant-loop
invariant-loop l = l.self ≡ record l.fn.self { right = record l.fn.self.right { at = l.to + (l.end - l.counter) } }
