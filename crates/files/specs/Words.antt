-- The letters of a word, read from the bytes of their codes.
use Rattle.std.specs.Prelude.{◌≡◌, ℕ, ◌<◌, ◌≤◌, List, length, Some, None, Ok, Err, Option, Result}
use Rattle.letters.specs.declared.kind.Kind.{Kind}
use Rattle.letters.specs.Kinds.{IsCode}
use Rattle.files.specs.declared.fault.FileFault.{FileFault}
use Rattle.files.specs.declared.fault.FileFault.TheVariants.{Number, InRecord, UnknownKind, PlateNotRising, CountTooLarge, NotACode}
use Rattle.files.specs.Numbers.{Reads, NumberAt}

module _ {L : Type 0} (kind : Kind) (InRange : L → Type 0) (code : L → ℕ) where
  -- What reading a letter of the kind at place i of code bytes answers, and the place j behind it: none where no byte is
  -- left, the letter whose code stands there, or the fault of the number there; then j is i.
  abbrev pub LetterAt : List ℕ → ℕ → Result (Option L) FileFault → ℕ → Type 0
  LetterAt bs i (Ok None) j = (length bs ≤ i) × (j ≡ i)
  LetterAt bs i (Ok (Some a)) j = InRange a × Reads bs i (code a) j
  LetterAt bs i (Err (Number fault)) j = (i < length bs) × NumberAt bs i (Err fault) × (j ≡ i)
  LetterAt bs i (Err (NotACode place)) j = (place ≡ i) × (n : ℕ) × (m : ℕ) × Reads bs i n m × (IsCode kind n → ⊥) × (j ≡ i)
  LetterAt bs i (Err (InRecord fault place)) j = ⊥
  LetterAt bs i (Err (UnknownKind place)) j = ⊥
  LetterAt bs i (Err (PlateNotRising place)) j = ⊥
  LetterAt bs i (Err (CountTooLarge place)) j = ⊥

  -- The letter that is given is the one that stands there, and where the code of a letter stands it is given.
  pub record LetterRead (bs : List ℕ) (i : ℕ) (r : Result (Option L) FileFault) (j : ℕ) : Type 0 where
    pub answer : LetterAt bs i r j
    pub only : (a : L) (m : ℕ) → InRange a → Reads bs i (code a) m → (r ≡ Ok (Some a)) × (j ≡ m)
