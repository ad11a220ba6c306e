use Rattle.files.proofs.Commas.{fronts}
use Rattle.files.proofs.line.put_commas.Given as goal

abbrev pub invariant-loop-letter : goal.invariant-loop-letter
invariant-loop-letter g l = g.O.Output.took l.initial.output (fronts g.L.CodedLetter.code l.row l.letter-index) l.output
