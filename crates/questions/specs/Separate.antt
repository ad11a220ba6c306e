-- What asking two strips for the first row that tells them apart answers.
use Rattle.std.specs.Prelude.{◌≡◌, ℕ, ◌+◌, ◌*◌, ◌<◌, ◌≤◌, min, List, length, Ok, Err, Option, Result}
use Rattle.words.specs.declared.fault.WordFault.{WordFault}
use Rattle.words.specs.declared.fault.WordFault.TheVariants.{TooLong, Scratch as WordScratch, Output as WordOutput}
use Rattle.words.specs.declared.told.Telling.{Telling}
use Rattle.words.specs.Separating.{Told}
use Rattle.questions.specs.declared.fault.QuestionFault.{QuestionFault}
use Rattle.questions.specs.declared.fault.QuestionFault.TheVariants.{Scratch, Output}

-- What a question about words lacks is what one about strips lacks. A word that is too long is not on a strip.
abbrev pub Lacks : WordFault → QuestionFault → Type 0
Lacks (WordScratch wanted) fault = fault ≡ Scratch wanted
Lacks (WordOutput wanted) fault = fault ≡ Output wanted
Lacks TooLong fault = ⊥

-- Asked of the words `left` and `right`, with what row memory and scratch held before and hold after. In this order it is
-- refused unless the scratch has 16 numbers for each letter and 32 more, and unless the row memory has one letter more than
-- the shorter word; a refusal changes nothing. Otherwise the first telling row is told: none exactly for equal words.
abbrev pub Asked : {A : Type 0} → (A → A → Type 0) → List A → List A → List A → List ℕ → Result (Option Telling) QuestionFault → List A → List ℕ → Type 0
Asked lt left right row scratch (Ok answer) after spare =
    (16 * (length left + length right + 2) ≤ length scratch) × (min (length left) (length right) + 1 ≤ length row) × Told lt left right row after answer
Asked lt left right row scratch (Err (Scratch wanted)) after spare =
    (wanted ≡ 16 * (length left + length right + 2)) × (length scratch < wanted) × (after ≡ row) × (spare ≡ scratch)
Asked lt left right row scratch (Err (Output wanted)) after spare =
    (16 * (length left + length right + 2) ≤ length scratch) × (wanted ≡ min (length left) (length right) + 1) × (length row < wanted)
    × (after ≡ row) × (spare ≡ scratch)
