-- How a refusal is shown.
use Rattle.std.specs.Prelude.{ℕ, List, ◌++◌, codes, decimal}

-- The number and the place, as in `fault 31 at 8`.
abbrev pub refusal_text : ℕ → ℕ → List ℕ
refusal_text number place = codes "fault " ++ (decimal number ++ (codes " at " ++ decimal place))
