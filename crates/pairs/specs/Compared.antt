-- Two plates told apart: the line that says by which row, and what making it answers.
use Rattle.std.specs.Prelude.{◌≡◌, ℕ, List, [], map, take, Some, None, Ok, Err, Option, Result}
use Rattle.words.specs.declared.told.Side.TheVariants.{Left}
use Rattle.words.specs.declared.told.Telling.{Telling}
use Rattle.questions.specs.Separate.{Asked}
use Rattle.files.specs.Line.{line_text, Wrote}
use Rattle.pairs.specs.declared.fault.RunFault.{RunFault}
use Rattle.pairs.specs.declared.fault.RunFault.TheVariants.{FileTooLong, File, Record, Question, Write}
use Rattle.pairs.specs.declared.memory.Memory.{Memory}
use Rattle.pairs.specs.Memories.{SameLoans}
use Rattle.pairs.specs.Plates.{Plate}

module _ {L : Type 0} (lt : L → L → Type 0) (code : L → ℕ) where
  -- The line of two plates by the telling row that stands first in `row`, or by none.
  abbrev pub told_line : Plate L → Plate L → List L → Option Telling → List ℕ
  told_line p q row None = line_text p.number q.number Left []
  told_line p q row (Some t) = line_text p.number q.number t.side (map code (take t.length row))

  -- What writing the line of two plates answers, and what row memory, scratch and line hold after it: the question for the
  -- first telling row is answered and the line written; or one of the two is refused.
  abbrev pub Compared : Plate L → Plate L → List L → List ℕ → List ℕ → Result ℕ RunFault → List L → List ℕ → List ℕ → Type 0
  Compared p q row scratch line (Ok n) row' scratch' line' =
      (answer : Option Telling) × Asked lt p.word q.word row scratch (Ok answer) row' scratch' × Wrote line (told_line p q row' answer) (Ok n) line'
  Compared p q row scratch line (Err (Question fault)) row' scratch' line' = Asked lt p.word q.word row scratch (Err fault) row' scratch' × (line' ≡ line)
  Compared p q row scratch line (Err (Write fault)) row' scratch' line' =
      (answer : Option Telling) × Asked lt p.word q.word row scratch (Ok answer) row' scratch' × Wrote line (told_line p q row' answer) (Err fault) line'
  Compared p q row scratch line (Err FileTooLong) row' scratch' line' = ⊥
  Compared p q row scratch line (Err (File fault)) row' scratch' line' = ⊥
  Compared p q row scratch line (Err (Record fault place)) row' scratch' line' = ⊥

  -- The same in the memory m, which is m' after it.
  abbrev pub ComparedIn : Plate L → Plate L → Memory L → Result ℕ RunFault → Memory L → Type 0
  ComparedIn p q m result m' = Compared p q m.row.now m.scratch.now m.line.now result m'.row.now m'.scratch.now m'.line.now × SameLoans m m'
