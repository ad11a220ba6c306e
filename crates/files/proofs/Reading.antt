-- Reading a record: its numbers one after the other, and how a fault of one becomes the fault of the record.
use Rattle.std.proofs.Common.{◌≡◌, ℕ, ◌-◌, ◌/◌, ◌%◌, ◌<◌, ◌≤◌, ◌⊎◌, List, [], ◌∷◌, ◌++◌, length, take, drop, Err, sym, refl, ap, ◌∙◌, inl, inr, append_assoc, arith, length-append, length-drop}
use Rattle.std.proofs.ByRecursion.{All-push}
use Rattle.std.proofs.lemmas.List.{flat_map_more, length_push, take_at}
use Rattle.letters.specs.declared.kind.Kind.{Kind}
use Rattle.letters.specs.Kinds.{IsCode}
use Rattle.files.specs.declared.fault.FileFault.{FileFault}
use Rattle.files.specs.declared.fault.FileFault.TheVariants.{InRecord}
use Rattle.files.specs.declared.number.NumberFault.{NumberFault}
use Rattle.files.specs.declared.reader.Reader.{Reader}
use Rattle.files.specs.Numbers.{marked, encode, Stands, Reads, NumberAt}
use Rattle.files.specs.Records.{encode_codes, CodesRead, HeadRead, CountDue, CodeDue, RecordFault, Entry, Allowed, encode_entry}
use Rattle.files.specs.Steps.{CodeFault}

-- The fault of a number that is due is the fault of the record.
pub number_fault_lem : (k : Kind) (bs : List ℕ) (last i j : ℕ) (fault : FileFault) → (j ≡ i) ⊎ (CountDue bs last i j ⊎ CodeDue k bs last i j)
    → (f : NumberFault) × (fault ≡ InRecord f i) × NumberAt bs j (Err f) → RecordFault k bs last i fault
number_fault_lem k bs last i j fault due (f, e, h) = rw e (refl, j, due, h)

pub code_fault : (a : Reader) (j : ℕ) (fault : FileFault) → CodeDue a.kind a.bytes.now a.last a.at j → CodeFault a j fault
    → RecordFault a.kind a.bytes.now a.last a.at fault
code_fault a j fault due (inl h) = number_fault_lem a.kind a.bytes.now a.last a.at j fault (inr (inr due)) h
code_fault a j fault due (inr (n, m, e, r, h)) = rw e (due, n, m, r, h)

-- Bytes that stand one after the other.
pub stands_none : (bs : List ℕ) (i : ℕ) → Stands bs i [] i
stands_none bs i = (refl, omega arith)

pub stands_append : (bs s t : List ℕ) (i j k : ℕ) → Stands bs i s j → Stands bs j t k → Stands bs i (s ++ t) k
stands_append bs s t i j k (p, q) (p', q') =
    (p ∙ ap (λ x. s ++ x) p' ∙ sym (append_assoc s t (drop k bs)), omega (arith, q, q', length-append s t))

-- One code more.
pub codes_more : (k : Kind) (bs cs : List ℕ) (i j n m : ℕ) → CodesRead k bs i cs j → Reads bs j n m → IsCode k n → CodesRead k bs i (cs ++ (n ∷ [])) m
codes_more k bs cs i j n m (s, all) (small, t) code =
    (rw (← flat_map_more encode [] cs n) (stands_append bs (encode_codes cs) (encode n) i j m s t), All-push (IsCode k) cs n all code)

-- What stands in the bytes ends within them.
pub stands_within : (bs s : List ℕ) (i j : ℕ) → Stands bs i s j → i ≤ length bs → j ≤ length bs
stands_within bs s i j (p, q) h = omega (arith, q, ap length p, length-drop i bs, length-drop j bs, length-append s (drop j bs))

pub reads_within : (bs : List ℕ) (i n j : ℕ) → Reads bs i n j → j ≤ length bs
reads_within bs i n j (small, (p, q)) =
    omega (arith, q, ap length p, length-drop i bs, length-drop j bs, length-append (encode n) (drop j bs), length_push (marked (n / 128)) (n % 128))

-- A number has a byte at least.
pub reads_forward : (bs : List ℕ) (i n j : ℕ) → Reads bs i n j → i < j
reads_forward bs i n j (small, (p, q)) = omega (arith, q, length_push (marked (n / 128)) (n % 128))

-- What stands in the bytes is the part of them from its place to its end.
pub stands_part : (bs s : List ℕ) (i j : ℕ) → Stands bs i s j → take (j - i) (drop i bs) ≡ s
stands_part bs s i j (p, q) = ap (take (j - i)) p ∙ take_at s (drop j bs) (j - i) (omega (arith, q))

-- A head and its codes are an allowed entry.
pub entry_stands : (k : Kind) (bs cs : List ℕ) (last i plate count m j : ℕ) → HeadRead bs last i plate count m → CodesRead k bs m cs j → length cs ≡ count
    → let e : Entry = record { plate = plate; codes = cs } in Allowed k last e × Stands bs i (encode_entry e) j
entry_stands k bs cs last i plate count m j (n, ((number, plate-here), rises), (count-number, count-here), few) (codes-here, all) e = (
  record { rises = rises; number = number; few = rw e few; coded = all },
  stands_append bs (encode plate) (encode (length cs) ++ encode_codes cs) i n j plate-here
      (stands_append bs (encode (length cs)) (encode_codes cs) n m j (rw e count-here) codes-here),
)
