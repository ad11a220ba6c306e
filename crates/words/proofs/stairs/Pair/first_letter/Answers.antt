use Rattle.std.proofs.Common.{arith}
use Rattle.words.proofs.RowLetters.{letter_inside, tried_more}
use Rattle.words.proofs.stairs.Pair.first_letter.Goals as goal

pub loop-letter-preserved : goal.loop-letter-preserved
loop-letter-preserved c = tried_more c.say.ensures c.if-say-degree.false c.loop-letter.invariant

pub unreachable-requires : goal.unreachable-requires
unreachable-requires c =
    let e = c.args.self.now in
    let known = c.letters-letters.ensures in
    let inside =
    letter_inside e.left.at e.right.at e.left.word e.right.word known.left known.right c.requires.differ c.requires.degree c.loop-letter.letter c.loop-letter.invariant in
    omega (arith, inside, c.loop-letter-test.false)
