-- The refusals of a strip: each with its number and its place.
use Rattle.std.specs.Prelude.{ℕ, List}
use Rattle.refusals.specs.Texts.{refusal_text}
use Rattle.strips.specs.declared.fault.StripFault.{StripFault}
use Rattle.strips.specs.declared.fault.StripFault.TheVariants.{Full, TooManyKinds, Empty}

-- The number and the place, which is the length of the word.
abbrev pub strip_fault : StripFault → ℕ × ℕ
strip_fault (Full place) = (31, place)
strip_fault (TooManyKinds place) = (32, place)
strip_fault Empty = (33, 0)

-- How a refusal is shown: its number and its place.
abbrev pub fault_text : StripFault → List ℕ
fault_text f = refusal_text (strip_fault f).0 (strip_fault f).1
