use Rattle.std.proofs.Common.{refl, sym, arith}
use Rattle.words.proofs.Heads.{head_occurs}
use Rattle.words.proofs.reading.Reading.go_behind.Goals as goal

pub pass_to-requires : goal.pass_to-requires
pass_to-requires c =
    let (later, inside, e) = head_occurs (rw (← c.self.view_is) at c.requires.occurs) (c.self.invariant.heads c.args.letter) in
    rw (← c.self.view_is) (record { inside = inside; later = omega (arith, later) })

pub returns : goal.returns
returns c =
    let (later, inside, e) = head_occurs (rw (← c.self.view_is) at c.requires.occurs) (c.self.invariant.heads c.args.letter) in
    rw (c.pass_to.ensures, ← c.self.view_is) (record { moved = refl; later = later; behind = sym e })
