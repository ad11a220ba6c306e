-- Word files as bytes: what a file means, and what reading one record answers.
use Rattle.std.specs.Prelude.{◌≡◌, ℕ, ◌^◌, ◌<◌, ◌≤◌, ◌⊎◌, List, [], ◌∷◌, ◌++◌, length, Some, None, Ok, Err, Option, Result}
use Rattle.std.specs.List.{flat_map, AllByRecursion}
use Rattle.letters.specs.declared.kind.Kind.{Kind}
use Rattle.letters.specs.Kinds.{IsCode, kind_number, kind_of}
use Rattle.files.specs.declared.fault.FileFault.{FileFault}
use Rattle.files.specs.declared.fault.FileFault.TheVariants.{Number, InRecord, UnknownKind, PlateNotRising, CountTooLarge, NotACode}
use Rattle.files.specs.declared.reader.Record.{Record}
use Rattle.files.specs.declared.reader.Reader.{Reader}
use Rattle.files.specs.Numbers.{encode, Stands, Reads, NumberAt}

-- What a record says: a plate, and the codes of its word.
pub record Entry : Type 0 where
  pub plate : ℕ
  pub codes : List ℕ

-- The bytes of a word: the code of each letter, one after the other.
abbrev pub encode_codes : List ℕ → List ℕ
encode_codes cs = flat_map encode cs

-- The bytes of a record: plate, letter count, codes.
abbrev pub encode_entry : Entry → List ℕ
encode_entry e = encode e.plate ++ (encode (length e.codes) ++ encode_codes e.codes)

-- The bytes of a file: the kind's number, then the records to the end.
abbrev pub encode_file : Kind → List Entry → List ℕ
encode_file k es = encode (kind_number k) ++ flat_map encode_entry es

-- What an entry must keep in a file of the kind, after a record of the plate `last` (0 before the first record).
pub record Allowed (k : Kind) (last : ℕ) (e : Entry) : Type 0 where
  pub rises : last < e.plate
  pub number : e.plate < 2 ^ 28
  pub few : length e.codes ≤ 4096
  pub coded : AllByRecursion (IsCode k) e.codes

-- The plate of the last of some entries; `last` if there is none.
abbrev pub last_plate : ℕ → List Entry → ℕ
last_plate last [] = last
last_plate last (e ∷ es) = last_plate e.plate es

-- Entries as they stand in a file of the kind: each is allowed after the one before.
abbrev pub Rising : Kind → ℕ → List Entry → Type 0
Rising k last [] = Unit {0}
Rising k last (e ∷ es) = Allowed k last e × Rising k e.plate es

-- The reader goes number by number, and each number must pass its check before the next is read. So far:

-- From place i on stand codes of the kind, which end before place j.
abbrev pub CodesRead : Kind → List ℕ → ℕ → List ℕ → ℕ → Type 0
CodesRead k bs i cs j = Stands bs i (encode_codes cs) j × AllByRecursion (IsCode k) cs

-- At place i stands a plate that exceeds the last one; the count is due at place j.
abbrev pub PlateRead : List ℕ → ℕ → ℕ → ℕ → ℕ → Type 0
PlateRead bs last i plate j = Reads bs i plate j × (last < plate)

-- At place i stand such a plate and a count of at most 4,096; the codes are due at place j.
abbrev pub HeadRead : List ℕ → ℕ → ℕ → ℕ → ℕ → ℕ → Type 0
HeadRead bs last i plate count j = (m : ℕ) × PlateRead bs last i plate m × Reads bs m count j × (count ≤ 4096)

-- The count of the record at place i is due at place j.
abbrev pub CountDue : List ℕ → ℕ → ℕ → ℕ → Type 0
CountDue bs last i j = (plate : ℕ) × PlateRead bs last i plate j

-- A code of the record at place i is due at place j: fewer were read than its count says.
abbrev pub CodeDue : Kind → List ℕ → ℕ → ℕ → ℕ → Type 0
CodeDue k bs last i j = (plate : ℕ) × (count : ℕ) × (m : ℕ) × (cs : List ℕ) × HeadRead bs last i plate count m × CodesRead k bs m cs j × (length cs < count)

-- The fault that reading the record at place i meets.
abbrev pub RecordFault : Kind → List ℕ → ℕ → ℕ → FileFault → Type 0
RecordFault k bs last i (InRecord fault place) =
    (place ≡ i) × (j : ℕ) × ((j ≡ i) ⊎ (CountDue bs last i j ⊎ CodeDue k bs last i j)) × NumberAt bs j (Err fault)
RecordFault k bs last i (PlateNotRising place) = (place ≡ i) × (n : ℕ) × (j : ℕ) × Reads bs place n j × (n ≤ last)
RecordFault k bs last i (CountTooLarge place) = CountDue bs last i place × (n : ℕ) × (j : ℕ) × Reads bs place n j × (4096 < n)
RecordFault k bs last i (NotACode place) = CodeDue k bs last i place × (n : ℕ) × (j : ℕ) × Reads bs place n j × (IsCode k n → ⊥)
RecordFault k bs last i (Number fault) = ⊥
RecordFault k bs last i (UnknownKind place) = ⊥

-- What opening a reader answers: the kind that stands first, and the place of the first record; or the fault.
abbrev pub Opened : List ℕ → Result Reader FileFault → Type 0
Opened bs (Ok a) = Reads bs 0 (kind_number a.kind) a.at × (a.last ≡ 0) × (a.bytes.now ≡ bs)
Opened bs (Err (Number fault)) = NumberAt bs 0 (Err fault)
Opened bs (Err (UnknownKind place)) = (place ≡ 0) × (n : ℕ) × (j : ℕ) × Reads bs 0 n j × (kind_of n ≡ None)
Opened bs (Err (InRecord fault place)) = ⊥
Opened bs (Err (PlateNotRising place)) = ⊥
Opened bs (Err (CountTooLarge place)) = ⊥
Opened bs (Err (NotACode place)) = ⊥

-- The answer is a reader of the kind, whose first record is due at place j.
abbrev pub OpensAs : Kind → ℕ → Result Reader FileFault → Type 0
OpensAs k j (Ok a) = (a.kind ≡ k) × (a.at ≡ j)
OpensAs k j (Err fault) = ⊥

-- A reader is opened exactly where the number of a kind stands first.
pub record OpenRead (bs : List ℕ) (r : Result Reader FileFault) : Type 0 where
  pub answer : Opened bs r
  pub only : (k : Kind) (j : ℕ) → Reads bs 0 (kind_number k) j → OpensAs k j r

-- The record shows the entry, which starts at the place: its plate, its letter count, and the bytes of its codes.
abbrev pub Shows : Entry → ℕ → Record → Type 0
Shows e place r = (r.plate ≡ e.plate) × (r.count ≡ length e.codes) × (r.place ≡ place) × (r.codes.now ≡ encode_codes e.codes)

-- What the next call on the reader a answers, and the reader b after it: none where no byte is left; the record that stands
-- at its place, with the reader behind it; or the first fault, with the reader as it was.
abbrev pub Next : Reader → Result (Option Record) FileFault → Reader → Type 0
Next a (Ok None) b = (length a.bytes.now ≤ a.at) × (b ≡ a)
Next a (Ok (Some r)) b =
    (e : Entry) × Allowed a.kind a.last e × Stands a.bytes.now a.at (encode_entry e) b.at
    × Shows e a.at r × (b ≡ record { bytes = a.bytes; kind = a.kind; at = b.at; last = e.plate })
Next a (Err fault) b = (a.at < length a.bytes.now) × RecordFault a.kind a.bytes.now a.last a.at fault × (b ≡ a)

-- The answer is a record that shows the entry e, and the reader b stands behind it, at place j.
abbrev pub Gives : Entry → ℕ → ℕ → Result (Option Record) FileFault → Reader → Type 0
Gives e i j (Ok (Some r)) b = Shows e i r × (b.at ≡ j)
Gives e i j (Ok None) b = ⊥
Gives e i j (Err fault) b = ⊥

-- A call of the reader a answers r and leaves the reader b. The record that it gives is the one that stands there, and where
-- an allowed entry stands it is given.
pub record NextRead (a : Reader) (r : Result (Option Record) FileFault) (b : Reader) : Type 0 where
  pub answer : Next a r b
  pub only : (e : Entry) (j : ℕ) → Allowed a.kind a.last e → Stands a.bytes.now a.at (encode_entry e) j → Gives e a.at j r b
