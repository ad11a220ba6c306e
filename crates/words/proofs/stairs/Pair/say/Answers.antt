use Rattle.words.specs.Degrees.{first_only, second_only, neither}
use Rattle.words.proofs.Staircase.{says_both}
use Rattle.words.proofs.stairs.Pair.say.Goals as goal

pub returns-in-None-None : goal.returns-in-None-None
returns-in-None-None c =
    rw (c.cap.ensures.cap, ← c.self.view_is)
    (neither (rw c.in-None-None.is-0 at c.behind.ensures) (rw c.in-None-None.is-1 at c.behind-2.ensures))

pub returns-in-Some-Some : goal.returns-in-Some-Some
returns-in-Some-Some c =
    rw (c.min.ensures, ← c.self.view_is)
    (says_both c.self.inside.left c.self.inside.right _ _ _ _ _ _ (rw c.in-Some-Some.is-0 at c.behind.ensures) (rw c.in-Some-Some.is-1 at c.behind-2.ensures) (c.self.invariant.stood _ c.in-Some-Some.ensures.0 c.in-Some-Some.ensures.1) (rw c.self.invariant.same at c.between.ensures))

pub returns-in-Some-None : goal.returns-in-Some-None
returns-in-Some-None c =
    rw (← c.self.view_is)
    (second_only (rw c.in-Some-None.is-0 at c.behind.ensures) (rw c.in-Some-None.is-1 at c.behind-2.ensures).2)

pub returns-in-Some-None-2 : goal.returns-in-Some-None-2
returns-in-Some-None-2 c =
    rw (← c.self.view_is)
    (first_only (rw c.in-Some-None.is-0 at c.behind.ensures).2 (rw c.in-Some-None.is-1 at c.behind-2.ensures))
