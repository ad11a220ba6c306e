-- Taps: a zone from 1 to 40 and a step from -120 to 120.
use Rattle.std.specs.Prelude.{ℕ, ◌+◌, ◌-◌, ◌*◌, ◌/◌, ◌%◌, ◌<◌, ◌≤◌, cond, ◌&&◌, ℤ, pos, negsuc, ◌-ℤ◌, ◌≤ℤ◌, Some, None, Option, nat_le}
use Rattle.std.specs.declared.cmp.Ordering.{Ordering}
use Rattle.std.specs.Int.Signed.{le_z}
use Rattle.std.specs.Ordering.{int_cmp, nat_cmp, ordering_then}
use Rattle.letters.specs.declared.tap.Tap.{Tap}

-- A zone and a step that a tap can have together (`negsuc 119` is -120).
abbrev pub TapNumbers : ℕ → ℤ → Type 0
TapNumbers zone step = (1 ≤ zone) × (zone ≤ 40) × (negsuc 119 ≤ℤ step) × (step ≤ℤ pos 120)

-- The tap of a zone and a step; none out of range.
abbrev pub tap_at : ℕ → ℤ → Option Tap
tap_at zone step =
    cond (nat_le 1 zone && nat_le zone 40 && le_z (negsuc 119) step && le_z step (pos 120)) (Some (record { zone = zone; step = step })) None

-- The steps counted up from the lowest: -120 is 0, and 120 is 240. What lies below the lowest counts as 0.
abbrev pub step_index : ℤ → ℕ
step_index (pos n) = n + 120
step_index (negsuc n) = 119 - n

-- The code of a tap: zone after zone, 241 steps in each.
abbrev pub tap_code : Tap → ℕ
tap_code t = (t.zone - 1) * 241 + step_index t.step

-- A number that is a tap's code.
abbrev pub TapCode : ℕ → Type 0
TapCode n = n < 9640

-- The tap of a code; none for a number that is no code.
abbrev pub tap_of : ℕ → Option Tap
tap_of n = tap_at (n / 241 + 1) (pos (n % 241) -ℤ pos 120)

-- By zone, then by step.
abbrev pub tap_order : Tap → Tap → Ordering
tap_order a b = ordering_then (nat_cmp a.zone b.zone) (int_cmp a.step b.step)
