use Rattle.std.proofs.Common.{refl, arith, rules}
use Rattle.strips.proofs.Calls.{few_none, few_fewer, clear_done}
use Rattle.strips.proofs.strip.Strip.clear.Goals as goal

-- The search has a lemma for any shorter word too: so a wrong length is refused for what `clear` promises.
pub invariant_of-self : goal.invariant_of-self
invariant_of-self g c = record { fits = omega arith; few = search (rules, few_none, few_fewer) }

pub returns : goal.returns
returns g c = clear_done c.args.self.now _ refl refl
