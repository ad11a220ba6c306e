use Rattle.std.proofs.Common.{◌≡◌, ◌≤◌, length}
use Rattle.words.specs.Reads.{Reads}
use Rattle.words.proofs.reading.Reading.pass_to.Given as goal

abbrev pub invariant-loop-place : goal.invariant-loop-place
invariant-loop-place l = record {
  reads : Reads (record l.self-inside { at = l.place });
  word : l.self-inside.word.now ≡ l.fn.self.word;
  letters : length l.self-inside.heads.now ≡ l.fn.self.letters;
  inside : l.to ≤ length l.self-inside.word.now;
}
