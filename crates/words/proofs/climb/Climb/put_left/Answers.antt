use Rattle.std.proofs.Common.{◌∙◌, arith, length-set}
use Rattle.words.proofs.Staircase.{said_left}
use Rattle.words.proofs.climb.Climb.put_left.Goals as goal

pub invariant_of-self : goal.invariant_of-self
invariant_of-self c =
    let put = c.put_left-letter.ensures in
    rw put.moved (record {
      size = length-set c.self.inside.says.now _ _ ∙ c.self.invariant.size;
      said = said_left _ _ (omega (arith, put.letter, c.self.invariant.size)) c.self.invariant.said _ (rw put.moved at put.front) (rw put.moved at c.say.ensures);
    })
