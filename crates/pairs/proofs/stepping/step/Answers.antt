use Rattle.std.proofs.Common.{refl, arith}
use Rattle.pairs.proofs.Stepped.{stepped}
use Rattle.pairs.proofs.stepping.step.Goals as goal

pub returns : goal.returns
returns g c =
    stepped _ _ _ _ _ _ _ _ _ c.args.memory.now _ _ _ _ c.in-Some.is c.in_ok-read.ensures (
      c.in_ok-length.ensures,
      record {
        row = (refl, omega (arith, c.compare.auto.row));
        scratch = (refl, omega (arith, c.compare.auto.scratch));
        line = (refl, omega (arith, c.compare.auto.line));
      },
    )
