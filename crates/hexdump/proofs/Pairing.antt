-- Digits read one by one, of which one may wait for the next.
use Rattle.std.proofs.Common.{ℕ, List, [], ◌∷◌, Some, None, Option}

-- The digit that waits, if there is one.
abbrev pub waiting : Option ℕ → List ℕ
waiting None = []
waiting (Some d) = d ∷ []
