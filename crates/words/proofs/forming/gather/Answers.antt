use Rattle.std.proofs.Common.{length, get_or, refl, arith}
use Rattle.std.proofs.lemmas.Option.{slice_get_read}
use Rattle.words.proofs.Gathering.{gathered_start, gathered_step}
use Rattle.words.proofs.forming.gather.Goals as goal

pub loop-i-init : goal.loop-i-init
loop-i-init g c = gathered_start c.args.word.now c.args.places.now c.args.out.now

pub loop-i-preserved : goal.loop-i-preserved
loop-i-preserved g c =
    let word = c.args.word.now in
    let i = c.loop-i.i in
    let letter = c.index-word-place.result in
    let read =
    slice_get_read word (length word) (get_or c.args.places.now i 0) letter refl (c.requires.below i (omega arith))
    c.index-word-place.is in
    gathered_step letter (omega arith) (omega arith) read c.loop-i.invariant
