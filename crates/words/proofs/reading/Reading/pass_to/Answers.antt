use Rattle.std.proofs.Common.{refl, arith, length-set}
use Rattle.words.proofs.Heads.{reads_pass}
use Rattle.words.proofs.reading.Reading.pass_to.Goals as goal

pub loop-place-preserved : goal.loop-place-preserved
loop-place-preserved c =
    let known = c.loop-place.invariant in
    record {
      reads = reads_pass (record c.loop-place.self-inside { at = c.loop-place.place }) _ refl refl (omega arith) refl refl known.reads;
      word = known.word;
      letters = simp length-set known.letters;
      inside = known.inside;
    }
