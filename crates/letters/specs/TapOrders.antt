-- Taps keep the third order rule: 'not after' is 'in an earlier zone, or in the same zone and of no higher step', and that goes
-- on from tap to tap. No contract cites this.
use Rattle.std.specs.Prelude.{◌≡◌, ◌<◌, true, ◌⊎◌, ◌≤ℤ◌}
use Rattle.std.proofs.Common.{arith}
use Rattle.std.proofs.lemmas.Int.{ints}
use Rattle.std.proofs.lemmas.Bool.Decides.{nat_tests}
use Rattle.std.specs.Ordering.{is_le}
use Rattle.letters.specs.declared.tap.Tap.{Tap}
use Rattle.letters.specs.Taps.{tap_order}

pub NotAfter : Tap → Tap → Type 0
NotAfter a b = (a.zone < b.zone) ⊎ ((a.zone ≡ b.zone) × (a.step ≤ℤ b.step))

pub from_order : (a b : Tap) → is_le (tap_order a b) ≡ true → NotAfter a b
unfolding NotAfter
from_order a b h = grind (arith, ints, nat_tests)

pub to_order : (a b : Tap) → NotAfter a b → is_le (tap_order a b) ≡ true
unfolding NotAfter
to_order a b h = grind (arith, ints, nat_tests)

pub goes_on : (a b c : Tap) → NotAfter a b → NotAfter b c → NotAfter a c
unfolding NotAfter
goes_on a b c h k = grind (arith, ints, nat_tests)
