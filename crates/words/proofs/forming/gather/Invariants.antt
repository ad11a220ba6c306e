use Rattle.words.proofs.Gathering.{Gathered}
use Rattle.words.proofs.forming.gather.Given as goal

abbrev pub invariant-loop-i : goal.invariant-loop-i
invariant-loop-i g l = Gathered l.word l.places l.initial.out l.i l.out
