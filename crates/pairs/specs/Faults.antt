-- The refusals that end a run over a word file.
use Rattle.std.specs.Prelude.{ℕ}
use Rattle.strips.specs.Faults.{strip_fault}
use Rattle.questions.specs.Faults.{question_fault}
use Rattle.files.specs.Faults.{file_fault}
use Rattle.files.specs.Line.{write_fault}
use Rattle.pairs.specs.declared.fault.RunFault.{RunFault}
use Rattle.pairs.specs.declared.fault.RunFault.TheVariants.{FileTooLong, File, Record, Question, Write}

-- The number and the place of a refusal. Those of the layers below keep their own, but a word that does not go on its strip
-- is refused at the first byte of its record.
abbrev pub run_fault : RunFault → ℕ × ℕ
run_fault FileTooLong = (61, 16384)
run_fault (File fault) = file_fault fault
run_fault (Record fault place) = ((strip_fault fault).0, place)
run_fault (Question fault) = question_fault fault
run_fault (Write fault) = write_fault fault
