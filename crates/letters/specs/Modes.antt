-- Modes: a number from 1 to 24, ordered by size, whose code is itself.
use Rattle.std.specs.Prelude.{ℕ, ◌≤◌, cond, ◌&&◌, Some, None, Option, nat_le}
use Rattle.std.specs.declared.cmp.Ordering.{Ordering}
use Rattle.std.specs.Ordering.{nat_cmp}
use Rattle.letters.specs.declared.mode.Mode.{Mode}

-- A number that a mode can have.
abbrev pub ModeNumber : ℕ → Type 0
ModeNumber n = (1 ≤ n) × (n ≤ 24)

-- The mode of a number; none for a number out of range.
abbrev pub mode_of : ℕ → Option Mode
mode_of n = cond (nat_le 1 n && nat_le n 24) (Some (record { value = n })) None

-- By size.
abbrev pub mode_order : Mode → Mode → Ordering
mode_order a b = nat_cmp a.value b.value
