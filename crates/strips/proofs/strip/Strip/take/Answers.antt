use Rattle.std.proofs.Common.{◌≡◌, ◌+◌, refl, arith}
use Rattle.strips.proofs.Calls.{few_fewer, take_empty, take_done}
use Rattle.strips.proofs.strip.Strip.take.Goals as goal

pub returns-in_default : goal.returns-in_default
returns-in_default g c = take_empty c.args.self.now (grind arith)

pub invariant_of-self : goal.invariant_of-self
invariant_of-self g c =
    let s = c.args.self.now in
    let fits = s.fits in
    let one_less : s.len ≡ c.in-Some.last + 1 = grind arith in
    record { fits = omega arith; few = few_fewer _ s.len s.letters.now (omega arith) s.few }

pub returns : goal.returns
returns g c = take_done c.args.self.now _ c.index-self-last.result (grind arith) refl
