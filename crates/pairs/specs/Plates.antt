-- Plates with their words: how they stand in a file, and whether a word goes on a strip.
use Rattle.std.specs.Prelude.{◌≡◌, ℕ, ◌<◌, ◌≤◌, ◌⊎◌, List, ◌∷◌, ◌++◌, map, length, drop, Some, None, Ok, Err, Option, Result, ◌≢◌}
use Rattle.std.specs.List.{AllByRecursion}
use Rattle.letters.specs.declared.kind.Kind.{Kind}
use Rattle.strips.specs.declared.fault.StripFault.{StripFault}
use Rattle.strips.specs.declared.fault.StripFault.TheVariants.{Full, TooManyKinds}
use Rattle.strips.specs.declared.strip.Strip.{Strip}
use Rattle.strips.specs.Rule.{Admits}
use Rattle.strips.specs.Strips.{word_of, memory_of, capacity_of}
use Rattle.strips.specs.Words.{AtMost}
use Rattle.files.specs.declared.fault.FileFault.{FileFault}
use Rattle.files.specs.declared.fault.FileFault.TheVariants.{UnknownKind}
use Rattle.files.specs.declared.reader.Reader.{Reader}
use Rattle.files.specs.Numbers.{Stands}
use Rattle.files.specs.Records.{Entry, Allowed, encode_entry, RecordFault}
use Rattle.pairs.specs.declared.plate.PlateOnStrip.{PlateOnStrip}
use Rattle.pairs.specs.declared.fault.RunFault.{RunFault}
use Rattle.pairs.specs.declared.fault.RunFault.TheVariants.{FileTooLong, File, Record, Question, Write}

-- A plate: its number and its word.
pub record Plate (L : Type 0) : Type 0 where
  pub number : ℕ
  pub word : List L

-- The plate whose word is on a strip.
abbrev pub plate_of : {L : Type 0} → PlateOnStrip L → Plate L
plate_of p = record { number = p.number; word = word_of p.strip.now }

-- The record that a plate has in a file.
abbrev pub entry_of : {L : Type 0} → (L → ℕ) → Plate L → Entry
entry_of code p = record { plate = p.number; codes = map code p.word }

-- A strip of this capacity can hold the word.
abbrev pub Holds : {L : Type 0} → ℕ → List L → Type 0
Holds capacity w = (length w ≤ capacity) × AtMost 64 w

-- Put on a strip of this capacity letter by letter, only the front part v of the word is taken, and then a letter is refused:
-- the strip is full, or the letter is one kind too many.
pub data Overfull {L : Type 0} (capacity : ℕ) (w v : List L) : StripFault → Type 0 where
  too_long : (a : L) (rest : List L) → w ≡ v ++ (a ∷ rest) → Holds capacity v → capacity ≤ length v → Overfull capacity w v (Full (length v))
  too_many : (a : L) (rest : List L) → w ≡ v ++ (a ∷ rest) → Holds capacity v → length v < capacity → (Admits a v → ⊥) → Overfull capacity w v (TooManyKinds (length v))

-- From the strip s to the strip t only the word changed: the memory behind the word of t stayed, the capacity, and whose the
-- memory is.
pub record Behind {L : Type 0} (s t : Strip L) : Type 0 where
  pub rest : drop t.len (memory_of t) ≡ drop t.len (memory_of s)
  pub capacity : capacity_of t ≡ capacity_of s
  pub lender : t.letters.ghost_name ≡ s.letters.ghost_name

-- The strip s was given the word w in place of its own, and is t now: it has all of w, or the front part that it can hold.
abbrev pub Loaded : {L : Type 0} → Strip L → List L → Result (Unit {0}) StripFault → Strip L → Type 0
Loaded s w (Ok done) t = (word_of t ≡ w) × Holds (capacity_of s) w × Behind s t
Loaded s w (Err fault) t = Overfull (capacity_of s) w (word_of t) fault × Behind s t

module _ {L : Type 0} (kind : Kind) (InRange : L → Type 0) (code : L → ℕ) where
  -- The plate p is the next record of the reader a, whose file is of the letters' kind; the reader b stands behind it.
  pub record Given (a : Reader) (p : Plate L) (b : Reader) : Type 0 where
    pub same_kind : a.kind ≡ kind
    pub letters : AllByRecursion InRange p.word
    pub allowed : Allowed kind a.last (entry_of code p)
    pub stands : Stands a.bytes.now a.at (encode_entry (entry_of code p)) b.at
    pub after : b ≡ record { bytes = a.bytes; kind = a.kind; at = b.at; last = p.number }

  -- No plate is given: the file is of another kind, which is refused as a kind number is, or the reader refuses the record.
  abbrev pub NotGiven : Reader → FileFault → Type 0
  NotGiven a fault = ((a.kind ≢ kind) × (fault ≡ UnknownKind 0)) ⊎ ((a.kind ≡ kind) × (a.at < length a.bytes.now) × RecordFault kind a.bytes.now a.last a.at fault)

  -- What reading the next plate onto the strip s answers: none at the end of the file; its number; or the refusal of the file,
  -- with nothing changed, or of the strip, at the record's first byte.
  abbrev pub PlateAnswer : Reader → Strip L → Result (Option ℕ) RunFault → Reader → Strip L → Type 0
  PlateAnswer a s (Ok None) b t = (a.kind ≡ kind) × (length a.bytes.now ≤ a.at) × (b ≡ a) × (t ≡ s)
  PlateAnswer a s (Ok (Some number)) b t = (w : List L) × Given a (record { number = number; word = w }) b × Loaded s w (Ok tt) t
  PlateAnswer a s (Err (File fault)) b t = NotGiven a fault × (b ≡ a) × (t ≡ s)
  PlateAnswer a s (Err (Record fault place)) b t = (p : Plate L) × Given a p b × (place ≡ a.at) × Loaded s p.word (Err fault) t
  PlateAnswer a s (Err FileTooLong) b t = ⊥
  PlateAnswer a s (Err (Question fault)) b t = ⊥
  PlateAnswer a s (Err (Write fault)) b t = ⊥
