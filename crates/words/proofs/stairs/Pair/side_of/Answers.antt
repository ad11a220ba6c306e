use Rattle.std.proofs.Common.{arith}
use Rattle.words.proofs.RowLetters.{last_telling}
use Rattle.words.proofs.stairs.Pair.side_of.Goals as goal

pub returns-then-left_has : goal.returns-then-left_has
returns-then-left_has c = (last_telling _ _ _ c.args.letter (omega arith) c.requires.first).0 (c.left_has.ensures.0 c.if-left_has.true)

pub returns-else-left_has : goal.returns-else-left_has
returns-else-left_has c =
    (last_telling _ _ _ c.args.letter (omega arith) c.requires.first).1 (λ o. cc (c.left_has.ensures.1 o, c.if-left_has.false))
