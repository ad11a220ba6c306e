use Rattle.std.proofs.Common.{refl}
use Rattle.words.proofs.Heads.{reads_end}
use Rattle.words.proofs.reading.Reading.start.Goals as goal

pub invariant_of-result : goal.invariant_of-result
invariant_of-result c = reads_end _ _ c.requires.few c.requires.letters c.requires.room refl (c.fill.ensures.after (λ y h. h))
