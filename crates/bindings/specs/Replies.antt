-- What callers in C are answered, as two numbers, by what the cores answer.
use Rattle.std.specs.Prelude.{◌≡◌, ℕ, List, Some, None, Ok, Err, Option, Result}
use Rattle.std.specs.declared.cmp.Ordering.{Ordering}
use Rattle.std.specs.Ordering.{nat_cmp}
use Rattle.words.specs.Letters.{Before}
use Rattle.words.specs.Faults.{word_fault}
use Rattle.words.specs.Forms.{FormAnswer}
use Rattle.words.specs.Separating.{SeparateAnswer}
use Rattle.words.specs.declared.fault.WordFault.{WordFault}
use Rattle.words.specs.declared.told.Side.{Side}
use Rattle.words.specs.declared.told.Side.TheVariants.{Left, Right}
use Rattle.words.specs.declared.told.Telling.{Telling}
use Rattle.bindings.specs.declared.letter.Letter.{Letter}
use Rattle.bindings.specs.declared.reply.Reply.{Reply}

-- Letters are ordered by size.
abbrev pub letter_order : Letter → Letter → Ordering
letter_order a b = nat_cmp a.number b.number

-- A refusal: its number and its place.
abbrev pub refused : WordFault → Reply
refused fault = record { number = (word_fault fault).0; size = (word_fault fault).1 }

abbrev pub side_number : Side → ℕ
side_number Left = 1
side_number Right = 2

-- 0 for equal words; otherwise the number of the side that has the row, and the row's length.
abbrev pub separated : Result (Option Telling) WordFault → Reply
separated (Ok None) = record { number = 0; size = 0 }
separated (Ok (Some t)) = record { number = side_number t.side; size = t.length }
separated (Err fault) = refused fault

-- 0 and the form's length.
abbrev pub formed : Result ℕ WordFault → Reply
formed (Ok f) = record { number = 0; size = f }
formed (Err fault) = refused fault

-- The reply stands for an answer of the core on these words and this memory. No two answers have one reply.
abbrev pub SeparateReply : List Letter → List Letter → List Letter → List ℕ → Reply → List Letter → List ℕ → Type 0
SeparateReply left right row scratch reply after spare =
    (answer : Result (Option Telling) WordFault)
    × (reply ≡ separated answer)
    × SeparateAnswer (Before letter_order) left right row scratch answer after spare

abbrev pub FormReply : ℕ → List Letter → List Letter → List ℕ → Reply → List Letter → List ℕ → Type 0
FormReply k word out scratch reply after spare =
    (answer : Result ℕ WordFault)
    × (reply ≡ formed answer)
    × FormAnswer (Before letter_order) k word out scratch answer after spare
