-- Strips: the word that one keeps in the caller's memory, and what a call does to it.
use Rattle.std.specs.Prelude.{◌≡◌, ℕ, min, List, length, take, drop, Ok, Err, Result}
use Rattle.strips.specs.declared.fault.StripFault.{StripFault}
use Rattle.strips.specs.declared.strip.Strip.{Strip}
use Rattle.strips.specs.Faults.{strip_fault}
use Rattle.strips.specs.Rule.{Call, Answer, Done, Taken, Refused, Rule}

-- All places of the memory, those after the word too.
abbrev pub memory_of : {A : Type 0} → Strip A → List A
memory_of s = s.letters.now

-- The word stands at the front of the memory, first letter first.
abbrev pub word_of : {A : Type 0} → Strip A → List A
word_of s = take s.len (memory_of s)

abbrev pub capacity_of : {A : Type 0} → Strip A → ℕ
capacity_of s = min (length (memory_of s)) 4096

-- A call on the strip s has this answer and leaves the strip t: answer and word are by the rule, the memory places after the
-- word hold what they held before, and there is as much room as before, in the same lent memory.
pub record Obeys {A : Type 0} (s : Strip A) (call : Call A) (answer : Answer A) (t : Strip A) : Type 0 where
  pub rule : Rule (capacity_of s) (word_of s) call answer (word_of t)
  pub rest : drop t.len (memory_of t) ≡ drop t.len (memory_of s)
  pub capacity : capacity_of t ≡ capacity_of s
  pub lender : t.letters.ghost_name ≡ s.letters.ghost_name

-- The answers as the rule has them.
abbrev pub refusal : {A : Type 0} → StripFault → Answer A
refusal f = Refused (strip_fault f).0 (strip_fault f).1

abbrev pub put_answer : {A : Type 0} → Result (Unit {0}) StripFault → Answer A
put_answer (Ok none) = Done
put_answer (Err f) = refusal f

abbrev pub take_answer : {A : Type 0} → Result A StripFault → Answer A
take_answer (Ok a) = Taken a
take_answer (Err f) = refusal f
