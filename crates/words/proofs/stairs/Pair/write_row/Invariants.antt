use Rattle.words.proofs.RowLetters.{Written}
use Rattle.words.proofs.stairs.Pair.write_row.Given as goal

abbrev pub invariant-loop-at : goal.invariant-loop-at
invariant-loop-at l = Written l.fn.self.left.word l.fn.self.right.word l.degree l.at l.row l.self
