use Rattle.files.proofs.Scanning.{Scanned}
use Rattle.files.proofs.number.read_number.Given as goal

abbrev pub invariant-loop-group : goal.invariant-loop-group
invariant-loop-group l = Scanned l.bytes l.at l.group l.value
