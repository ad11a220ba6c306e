use Rattle.std.proofs.Common.{ap, length, arith}
use Rattle.std.proofs.Math.Decide.{ℕ_discrete}
use Rattle.words.proofs.Places.{length_rights}
use Rattle.words.proofs.tree.Tree.depth.Goals as goal

pub bounds-depths-place : goal.bounds-depths-place
bounds-depths-place c =
    omega (arith, ap length c.self.view_is, ap length c.self.invariant.depths, length_rights ℕ_discrete c.self.inside.word.now)
