use Rattle.words.proofs.Scans.{ahead_more}
use Rattle.words.proofs.vector.Coordinates.put_in_front.Goals as goal

pub returns-clause-ahead : goal.returns-clause-ahead
returns-clause-ahead c q h =
    let inside = c.args.self.now.ranks c.args.i c.requires.within in (
      h _ inside,
      simp c.lower.ensures (ahead_more c.args.self.now.ahead.now q _ inside h),
    )
