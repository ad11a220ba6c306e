use Rattle.std.proofs.Common.{ℕ, ◌<◌}
use Rattle.words.specs.Reading.{end_part}
use Rattle.words.specs.RowSteps.{cap}
use Rattle.words.proofs.RowLetters.{SaysMore}
use Rattle.words.proofs.stairs.Pair.first_letter.Given as goal

abbrev pub invariant-loop-letter : goal.invariant-loop-letter
invariant-loop-letter l = (y : ℕ) → y < l.letter → SaysMore (cap l.self.right.word) l.degree (end_part l.self.left) (end_part l.self.right) y
