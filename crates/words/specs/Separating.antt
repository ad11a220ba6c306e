-- What asking for the first telling row of two words answers, for letters of any kind.
use Rattle.std.specs.Prelude.{◌≡◌, ℕ, ◌+◌, ◌*◌, ◌<◌, ◌≤◌, min, ◌⊎◌, List, length, take, drop, Some, None, Ok, Err, Option, Result}
use Rattle.words.specs.declared.fault.WordFault.{WordFault}
use Rattle.words.specs.declared.fault.WordFault.TheVariants.{TooLong, Scratch, Output}
use Rattle.words.specs.declared.told.Side.{Side}
use Rattle.words.specs.declared.told.Side.TheVariants.{Left, Right}
use Rattle.words.specs.declared.told.Telling.{Telling}
use Rattle.words.specs.Words.{Tells, FirstTelling}

-- Words of `n` and of `m` letters are accepted, with room for so many letters and so many numbers of scratch.
pub record BothAccepted (n m room scratch : ℕ) : Type 0 where
  pub left_short : n ≤ 4096
  pub right_short : m ≤ 4096
  pub enough : 16 * (n + m + 2) ≤ scratch
  pub fits : min n m + 1 ≤ room

-- Or they are refused: one of them is too long; if not, the scratch is too small; if not, the row memory is.
abbrev pub BothRefused : ℕ → ℕ → ℕ → ℕ → WordFault → Type 0
BothRefused n m room scratch TooLong = (4096 < n) ⊎ (4096 < m)
BothRefused n m room scratch (Scratch wanted) =
    (n ≤ 4096) × (m ≤ 4096) × (wanted ≡ 16 * (n + m + 2)) × (scratch < wanted)
BothRefused n m room scratch (Output wanted) =
    (n ≤ 4096) × (m ≤ 4096) × (16 * (n + m + 2) ≤ scratch) × (wanted ≡ min n m + 1) × (room < wanted)

-- the word of this side has the row, and the other has not
abbrev pub TellsOn : {A : Type 0} → Side → List A → List A → List A → Type 0
TellsOn Left z u v = Tells z u v
TellsOn Right z u v = Tells z v u

-- The first telling row stands at the start of the row memory, which held `row`, and the rest of it is as it was.
pub record Separated {A : Type 0} (lt : A → A → Type 0) (left right row after : List A) (t : Telling) : Type 0 where
  pub few : t.length ≤ min (length left) (length right) + 1
  pub first : FirstTelling lt (take t.length after) left right
  pub side : TellsOn t.side (take t.length after) left right
  pub rest : drop t.length after ≡ drop t.length row

-- What an accepted question answers: equal words have no telling row, and the row memory is as it was.
abbrev pub Told : {A : Type 0} → (A → A → Type 0) → List A → List A → List A → List A → Option Telling → Type 0
Told lt left right row after None = (left ≡ right) × (after ≡ row)
Told lt left right row after (Some t) = Separated lt left right row after t

-- What asking for the first telling row of two words answers, and what row memory and scratch hold after it. A refusal
-- changes nothing; otherwise the scratch may hold anything.
abbrev pub SeparateAnswer : {A : Type 0} → (A → A → Type 0) → List A → List A → List A → List ℕ
    → Result (Option Telling) WordFault → List A → List ℕ → Type 0
SeparateAnswer lt left right row scratch (Ok answer) after spare =
    BothAccepted (length left) (length right) (length row) (length scratch) × Told lt left right row after answer
SeparateAnswer lt left right row scratch (Err fault) after spare =
    BothRefused (length left) (length right) (length row) (length scratch) fault × (after ≡ row) × (spare ≡ scratch)
