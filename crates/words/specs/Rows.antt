-- What the private functions behind `separate` promise each other about the first telling row of two words of ranks.
use Rattle.std.specs.Prelude.{◌≡◌, ℕ, ◌+◌, ◌<◌, ◌≤◌, List, length, take, Some, None, Option}
use Rattle.std.proofs.Math.Decide.{ℕ_discrete}
use Rattle.words.specs.Words.{FirstTelling}
use Rattle.words.specs.Degrees.{Follow}
use Rattle.words.specs.Separating.{TellsOn}
use Rattle.words.specs.declared.told.Side.{Side}
use Rattle.words.specs.declared.told.Side.TheVariants.{Left, Right}
use Rattle.words.specs.declared.told.Telling.{Telling}

-- `x` says less than `degree` of the words, and no smaller letter does
pub record FirstLetter (K degree : ℕ) (u v : List ℕ) (x : ℕ) : Type 0 where
  pub says : (d : ℕ) × Follow ℕ_discrete K x u v d × (d < degree)
  pub before : (y : ℕ) → y < x → (d : ℕ) × Follow ℕ_discrete K y u v d × (degree ≤ d)

-- What asking for the first telling row of two words of ranks answers, with the row at the start of memory.
abbrev pub ToldRanks : List ℕ → List ℕ → List ℕ → Option Telling → Type 0
ToldRanks s t memory None = s ≡ t
ToldRanks s t memory (Some r) =
    (r.length ≤ length t + 1) × FirstTelling ◌<◌ (take r.length memory) s t × TellsOn r.side (take r.length memory) s t

-- the side of a row when the two words are exchanged
abbrev pub other_side : Side → Side
other_side Left = Right
other_side Right = Left
