use Rattle.words.proofs.Degrees.{degree_parts}
use Rattle.words.proofs.stretches.Stretches.between.Goals as goal

pub returns : goal.returns
returns c = degree_parts c.args.self.now c.args.here c.args.there (rw (c.min.ensures, c.max.ensures) at c.least.ensures)
