use Rattle.strips.proofs.Deciding.{at_most_known}
use Rattle.strips.proofs.strip.Strip.word.Goals as goal

pub returns-clause-kinds : goal.returns-clause-kinds
returns-clause-kinds g c =
    at_most_known g.L.OrderedLetter.order g.met.L.OrderedLetter.same g.met.L.OrderedLetter.itself 64 _ c.args.self.now.few
