-- What the functions of the reader and of the listing promise each other.
use Rattle.std.specs.Prelude.{◌≡◌, ℕ, ◌<◌, ◌⊎◌, List, [], ◌∷◌, ◌++◌, length, Ok, Err, Result}
use Rattle.letters.specs.declared.kind.Kind.{Kind}
use Rattle.letters.specs.Kinds.{IsCode}
use Rattle.files.specs.declared.fault.FileFault.{FileFault}
use Rattle.files.specs.declared.fault.FileFault.TheVariants.{InRecord, NotACode}
use Rattle.files.specs.declared.number.Number.{Number}
use Rattle.files.specs.declared.number.NumberFault.{NumberFault}
use Rattle.files.specs.declared.reader.Head.{Head}
use Rattle.files.specs.declared.reader.Reader.{Reader}
use Rattle.std.specs.List.{flat_map}
use Rattle.files.specs.Listing.{entry_line, letter_count, total_line, fault_line}
use Rattle.files.specs.Numbers.{Stands, Reads, NumberAt}
use Rattle.files.specs.Records.{Entry, encode_entry, Allowed, HeadRead, CodesRead, RecordFault}

-- The number at a place, or its fault as one of the record that is next.
abbrev pub NumberIn : Reader → ℕ → Result Number FileFault → Type 0
NumberIn a i (Ok x) = Reads a.bytes.now i x.value x.next
NumberIn a i (Err fault) = (f : NumberFault) × (fault ≡ InRecord f a.at) × NumberAt a.bytes.now i (Err f)

-- The plate and the count of the record that is next, or the fault of the record.
abbrev pub HeadAt : Reader → Result Head FileFault → Type 0
HeadAt a (Ok h) = HeadRead a.bytes.now a.last a.at h.plate h.count h.codes
HeadAt a (Err fault) = RecordFault a.kind a.bytes.now a.last a.at fault

-- The fault of the number at place j, where a code of the record that is next is due.
abbrev pub CodeFault : Reader → ℕ → FileFault → Type 0
CodeFault a j fault =
    ((f : NumberFault) × (fault ≡ InRecord f a.at) × NumberAt a.bytes.now j (Err f))
    ⊎ ((n : ℕ) × (m : ℕ) × (fault ≡ NotACode j) × Reads a.bytes.now j n m × (IsCode a.kind n → ⊥))

-- As many codes as the head says, and where they end; or the fault of the first number that is none.
abbrev pub CodesAt : Reader → Head → Result ℕ FileFault → Type 0
CodesAt a h (Ok j) = (cs : List ℕ) × CodesRead a.kind a.bytes.now h.codes cs j × (length cs ≡ h.count)
CodesAt a h (Err fault) =
    (cs : List ℕ) × (j : ℕ) × CodesRead a.kind a.bytes.now h.codes cs j × (length cs < h.count) × CodeFault a j fault

-- From place i on stand the entries of a file of the kind; the last of them has the plate `last` (0 if there is none) and
-- ends before place j.
pub data Entries (k : Kind) (bs : List ℕ) (i : ℕ) : List Entry → ℕ → ℕ → Type 0 where
  no_entry : Entries k bs i [] 0 i
  one_more : (es : List Entry) (last m : ℕ) (e : Entry) (j : ℕ) → Entries k bs i es last m → Allowed k last e → Stands bs m (encode_entry e) j
      → Entries k bs i (es ++ (e ∷ [])) e.plate j

-- The text lists the records from place i on, up to the end of the bytes or up to the first fault, and then the totals or
-- the fault.
pub data RecordsListed (k : Kind) (bs : List ℕ) (i : ℕ) : List ℕ → Type 0 where
  to_end : (es : List Entry) (last : ℕ) → Entries k bs i es last (length bs)
      → RecordsListed k bs i (flat_map entry_line es ++ total_line (length es) (letter_count es) (length bs))
  to_fault : (es : List Entry) (last j : ℕ) (f : FileFault) → Entries k bs i es last j → j < length bs → RecordFault k bs last j f
      → RecordsListed k bs i (flat_map entry_line es ++ fault_line f)
