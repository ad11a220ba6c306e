-- The refusals of questions about strips.
use Rattle.std.specs.Prelude.{ℕ}
use Rattle.questions.specs.declared.fault.QuestionFault.{QuestionFault}
use Rattle.questions.specs.declared.fault.QuestionFault.TheVariants.{Scratch, Output}

-- The number and the place, which is the length that is wanted.
abbrev pub question_fault : QuestionFault → ℕ × ℕ
question_fault (Scratch wanted) = (41, wanted)
question_fault (Output wanted) = (42, wanted)
