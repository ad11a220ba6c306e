use Rattle.std.proofs.Common.{arith, rules}
use Rattle.strips.proofs.Calls.{few_none, few_one}
use Rattle.strips.proofs.OneOutcome.{rule_is_one}
use Rattle.strips.proofs.strip.Strip.open.Goals as goal

-- The search has a lemma for one letter too: so a wrong length is refused for what `open` promises.
pub invariant_of-result : goal.invariant_of-result
invariant_of-result g c = record { fits = omega arith; few = search (rules, few_none, few_one) }

pub returns-clause-law : goal.returns-clause-law
returns-clause-law g c = rule_is_one g.row.L.Denot
