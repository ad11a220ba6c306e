use Rattle.std.proofs.Common.{◌-◌, length}
use Rattle.words.specs.Letters.{Before}
use Rattle.pairs.specs.Memories.{Room}
use Rattle.pairs.proofs.Running.{Running}
use Rattle.pairs.proofs.run.print_plates.Given as goal

abbrev pub invariant-loop-next : goal.invariant-loop-next
invariant-loop-next g l = record {
  running : Running (Before g.L.OrderedLetter.order) g.L.CodedLetter.kind g.L.CodedLetter.InRange g.L.CodedLetter.code g.S.Sink.took l.fn.reader.bytes.now l.fn.sink
      l.reader l.number l.earlier l.later l.sink;
  room : Room l.memory;
}

abbrev pub decreases-loop-next : goal.decreases-loop-next
decreases-loop-next g l = length l.fn.reader.bytes.now - l.reader.at
