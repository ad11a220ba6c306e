use Rattle.std.proofs.Common.{◌≡◌, ◌-◌, length}
use Rattle.pairs.proofs.Putting.{Loading}
use Rattle.pairs.proofs.loading.load.Given as goal

abbrev pub invariant-loop-letter : goal.invariant-loop-letter
invariant-loop-letter g l =
    Loading g.L.CodedLetter.InRange g.L.CodedLetter.code l.codes l.initial.strip l.strip l.letters.at
    × (l.letters.codes.now ≡ l.codes)

abbrev pub decreases-loop-letter : goal.decreases-loop-letter
decreases-loop-letter g l = length l.letters.codes.now - l.letters.at
