use Rattle.std.proofs.Common.{refl, ap, arith}
use Rattle.words.specs.Reading.{Reached}
use Rattle.words.proofs.Heads.{reads_more}
use Rattle.words.proofs.reading.Reading.put_front.Goals as goal

pub invariant_of-self : goal.invariant_of-self
invariant_of-self c =
    reads_more c.self.inside _ refl (omega (arith, ap (λ (r : Reached). r.at) c.self.view_is)) refl refl c.self.invariant
