use Rattle.std.proofs.Common.{◌≡◌}
use Rattle.words.proofs.Scans.{SeenRight}
use Rattle.words.proofs.vector.Coordinates.write_rights.Given as goal

abbrev pub invariant-loop-i : goal.invariant-loop-i
invariant-loop-i l = record {
  same : l.self.word.now ≡ l.initial.self.word.now;
  seen : SeenRight l.self.word.now l.i l.self.ahead.now l.out;
}
