use Rattle.std.proofs.Common.{◌∙◌}
use lib.Seq.{drop-length}
use Rattle.words.proofs.Staircase.{said_empty}
use Rattle.words.proofs.climb.Climb.start.Goals as goal

pub invariant_of-result : goal.invariant_of-result
invariant_of-result c = record {
  size = c.fill.ensures.len ∙ c.requires.letters;
  said = rw (c.fill.ensures.after (λ y h. h), c.cap.ensures.cap, c.requires.left_end, c.requires.right_end, drop-length c.args.pair.left.word, drop-length c.args.pair.right.word) (said_empty _ _);
}
