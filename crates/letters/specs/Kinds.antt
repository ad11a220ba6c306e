-- The kinds of letters that have codes: this is where a new kind is entered.
use Rattle.std.specs.Prelude.{◌≡◌, ℕ, cond, List, Some, None, codes, MatchResult, Option, Result, ◌==◌}
use Rattle.letters.specs.declared.kind.Kind.{Kind}
use Rattle.letters.specs.declared.kind.Kind.TheVariants.{Modes, Taps}
use Rattle.letters.specs.declared.kind.UnknownKind.{UnknownKind}
use Rattle.letters.specs.Modes.{ModeNumber}
use Rattle.letters.specs.Taps.{TapCode}

-- The number that stands for a kind.
abbrev pub kind_number : Kind → ℕ
kind_number Modes = 1
kind_number Taps = 2

-- The kind that a number stands for; none for any other number.
abbrev pub kind_of : ℕ → Option Kind
kind_of n = cond (n == 1) (Some Modes) (cond (n == 2) (Some Taps) None)

-- The kind of a number; or an error that has the number, where it stands for none.
abbrev pub KindOf : ℕ → Result Kind UnknownKind → Type 0
KindOf n r = MatchResult r (λ k. kind_of n ≡ Some k) (λ e. (kind_of n ≡ None) × (e.0 ≡ n))

-- The numbers that are codes of a kind.
abbrev pub IsCode : Kind → ℕ → Type 0
IsCode Modes n = ModeNumber n
IsCode Taps n = TapCode n

-- What people call a kind.
abbrev pub kind_name : Kind → List ℕ
kind_name Modes = codes "modes"
kind_name Taps = codes "taps"
