use Rattle.std.proofs.Common.{refl}
use Rattle.words.proofs.Keeping.{ready_left}
use Rattle.words.proofs.stairs.Pair.put_left.Goals as goal

pub invariant_of-self : goal.invariant_of-self
invariant_of-self c =
    ready_left c.self.inside _ _ _ _ c.at-place.ensures.at c.put_front.ensures.moved refl refl refl refl
    (rw (← c.self.view_is) at c.requires.more) (rw (← c.self.view_is) at c.requires.stair) c.self.invariant
