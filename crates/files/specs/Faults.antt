-- The faults of a word file: each with its number, its place, and the place of the record that it was met in.
use Rattle.std.specs.Prelude.{ℕ, List, Some, None, Option}
use Rattle.refusals.specs.Texts.{refusal_text}
use Rattle.files.specs.declared.fault.FileFault.{FileFault}
use Rattle.files.specs.declared.fault.FileFault.TheVariants.{Number, InRecord, UnknownKind, PlateNotRising, CountTooLarge, NotACode}
use Rattle.files.specs.Numbers.{number_fault}

-- The number and the place of a fault. A number's own fault keeps both.
abbrev pub file_fault : FileFault → ℕ × ℕ
file_fault (Number fault) = number_fault fault
file_fault (InRecord fault record') = number_fault fault
file_fault (UnknownKind place) = (21, place)
file_fault (PlateNotRising place) = (22, place)
file_fault (CountTooLarge place) = (23, place)
file_fault (NotACode place) = (24, place)

-- The first byte of the record in which a number had its own fault.
abbrev pub fault_record : FileFault → Option ℕ
fault_record (Number fault) = None
fault_record (InRecord fault place) = Some place
fault_record (UnknownKind place) = None
fault_record (PlateNotRising place) = None
fault_record (CountTooLarge place) = None
fault_record (NotACode place) = None

-- How a fault is shown: its number and its place.
abbrev pub fault_text : FileFault → List ℕ
fault_text f = refusal_text (file_fault f).0 (file_fault f).1
