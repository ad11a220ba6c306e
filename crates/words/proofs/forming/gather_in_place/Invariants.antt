use Rattle.words.proofs.Gathering.{Gathered}
use Rattle.words.proofs.forming.gather_in_place.Given as goal

abbrev pub invariant-loop-i : goal.invariant-loop-i
invariant-loop-i g l = Gathered l.initial.word l.places l.initial.word l.i l.word
