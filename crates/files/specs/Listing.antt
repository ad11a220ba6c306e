-- A word file as people read it: what is in it, or where it breaks off.
use Rattle.std.specs.Prelude.{◌≡◌, ℕ, ◌+◌, ◌<◌, List, [], ◌∷◌, ◌++◌, length, Err, codes, decimal}
use Rattle.std.specs.List.{flat_map}
use Rattle.letters.specs.declared.kind.Kind.{Kind}
use Rattle.letters.specs.Kinds.{kind_number, kind_name}
use Rattle.files.specs.declared.fault.FileFault.{FileFault}
use Rattle.files.specs.Faults.{fault_text}
use Rattle.files.specs.Numbers.{Stands}
use Rattle.files.specs.Records.{Entry, encode_file, Rising, last_plate, Opened, RecordFault}

-- The first line: the kind's number and name.
abbrev pub kind_line : Kind → List ℕ
kind_line k = codes "kind " ++ (decimal (kind_number k) ++ (codes " " ++ (kind_name k ++ codes "\n")))

-- Codes in decimal, a space before each.
abbrev pub codes_text : List ℕ → List ℕ
codes_text cs = flat_map (λ c. codes " " ++ decimal c) cs

-- A record's line: its plate and its codes.
abbrev pub entry_line : Entry → List ℕ
entry_line e = decimal e.plate ++ (codes ":" ++ (codes_text e.codes ++ codes "\n"))

-- How many letters the entries have.
abbrev pub letter_count : List Entry → ℕ
letter_count [] = 0
letter_count (e ∷ es) = length e.codes + letter_count es

-- The last line of a file without fault: how much was read.
abbrev pub total_line : ℕ → ℕ → ℕ → List ℕ
total_line plates letters bytes =
    codes "# " ++ (decimal plates ++ (codes " plates, " ++ (decimal letters ++ (codes " letters, " ++ (decimal bytes ++ codes " bytes\n")))))

-- The last line of a file with a fault.
abbrev pub fault_line : FileFault → List ℕ
fault_line f = fault_text f ++ codes "\n"

-- The text lists the file in the bytes, which are
-- the encoding of entries as a file has them: then the kind, the entries and the totals are told;
-- or begin with such an encoding, and a fault is met in the record behind it: then the kind, the entries and the fault;
-- or have a fault in their kind: then the fault alone.
pub data Listed (bs : List ℕ) : List ℕ → Type 0 where
  whole : (k : Kind) (es : List Entry) → Rising k 0 es → bs ≡ encode_file k es
      → Listed bs (kind_line k ++ (flat_map entry_line es ++ total_line (length es) (letter_count es) (length bs)))
  broken : (k : Kind) (es : List Entry) (j : ℕ) (f : FileFault) → Rising k 0 es → Stands bs 0 (encode_file k es) j → j < length bs
      → RecordFault k bs (last_plate 0 es) j f → Listed bs (kind_line k ++ (flat_map entry_line es ++ fault_line f))
  unopened : (f : FileFault) → Opened bs (Err f) → Listed bs (fault_line f)
