-- The refusals of questions about words.
use Rattle.std.specs.Prelude.{ℕ}
use Rattle.words.specs.declared.fault.WordFault.{WordFault}
use Rattle.words.specs.declared.fault.WordFault.TheVariants.{TooLong, Scratch, Output}

-- The number and the place of a refusal; the place is the length that is allowed or wanted.
abbrev pub word_fault : WordFault → ℕ × ℕ
word_fault TooLong = (43, 4096)
word_fault (Scratch wanted) = (41, wanted)
word_fault (Output wanted) = (42, wanted)
