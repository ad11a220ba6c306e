use native.Mathlib.Decide.{ℕ_discrete}
use Rattle.words.proofs.Places.{paired_one}
use Rattle.words.proofs.Staircase.{partner_before, stand_partner, stand_other}
use Rattle.words.proofs.climb.Climb.find_stair.Goals as goal

pub returns-in_default-clause-stair : goal.returns-in_default-clause-stair
returns-in_default-clause-stair c =
    rw (c.lowered.ensures.level, c.lowered.ensures.stand)
    (stand_other c.requires.inside c.requires.depth (λ j p. absurd ((rw c.in_default.is at c.requires.partner) j p)) c.requires.next)

pub walk_right-requires : goal.walk_right-requires
walk_right-requires c = record { before = partner_before (rw c.in-Some.is at c.requires.partner) c.requires.last }

pub returns-then-level-depth-clause-stair : goal.returns-then-level-depth-clause-stair
returns-then-level-depth-clause-stair c =
    stand_partner c.requires.inside (rw c.in-Some.is at c.requires.partner) (rw c.walk_right.ensures at c.capped_degree-level.ensures)
    (rw c.requires.depth at c.if-level-depth.true)

pub returns-else-level-depth-clause-stair : goal.returns-else-level-depth-clause-stair
returns-else-level-depth-clause-stair c =
    let lowered = c.lowered-else-level-depth.ensures in
    let partner = rw c.in-Some.is at c.requires.partner in
    let degree = rw c.walk_right.ensures at c.capped_degree-level.ensures in
    rw (lowered.level, lowered.stand)
    (stand_other c.requires.inside c.requires.depth (λ j p. (c.capped_degree-level.result, rw (paired_one ℕ_discrete p partner) degree, c.if-level-depth.false)) c.requires.next)
