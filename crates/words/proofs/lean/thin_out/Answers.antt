use Rattle.std.proofs.Common.{arith, length-append, length-take}
use Rattle.words.proofs.Numbering.{first_below}
use Rattle.words.proofs.lean.thin_out.Goals as goal

pub thin-requires-clause-ranks : goal.thin-requires-clause-ranks
thin-requires-clause-ranks g c i l =
    let below = first_below c.number.ensures.ranks in
    let few = rw c.number.ensures.same at c.number.result.few in
    simp (length-take, length-append) (omega (arith, below i l, c.len-letters.ensures, simp length-append at few))
