use Rattle.std.proofs.Common.{ap, length, arith}
use Rattle.std.proofs.Math.Decide.{ℕ_discrete}
use Rattle.words.proofs.Places.{length_rights}
use Rattle.words.proofs.tree.Tree.before.Goals as goal

pub bounds-depths-before : goal.bounds-depths-before
bounds-depths-before c =
    omega (arith, c.in_ok-before.ensures, ap length c.self.view_is, ap length c.self.invariant.depths, length_rights ℕ_discrete c.self.inside.word.now)
