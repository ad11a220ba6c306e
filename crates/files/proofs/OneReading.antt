-- Bytes are read in one way: where an allowed record stands, the reader gives that record.
use Rattle.std.proofs.Common.{◌≡◌, ℕ, ◌+◌, ◌/◌, ◌%◌, ◌<◌, ◌≤◌, List, [], ◌∷◌, ◌++◌, length, drop, Some, None, Ok, Err, Option, Result, sym, refl, ap, ◌∙◌, subst, inl, inr, append_assoc, arith, length-append, length-drop}
use Rattle.std.proofs.lemmas.List.{length_push, drop-drop, drop_at}
use Rattle.letters.specs.declared.kind.Kind.{Kind}
use Rattle.letters.specs.declared.kind.Kind.TheVariants.{Modes, Taps}
use Rattle.letters.specs.Kinds.{IsCode}
use Rattle.files.specs.declared.fault.FileFault.{FileFault}
use Rattle.files.specs.declared.fault.FileFault.TheVariants.{Number, InRecord, UnknownKind, PlateNotRising, CountTooLarge, NotACode}
use Rattle.files.specs.declared.number.NumberFault.{NumberFault}
use Rattle.files.specs.declared.reader.Record.{Record}
use Rattle.files.specs.declared.reader.Reader.{Reader}
use Rattle.files.specs.Numbers.{marked, encode, Stands, Reads, NumberAt}
use Rattle.files.specs.Records.{Entry, Allowed, Gives, encode_codes, encode_entry, CodesRead, HeadRead, CountDue, CodeDue, RecordFault, Next, NextRead}
use Rattle.files.proofs.Encoding.{encode_unique, number_only}

-- Bytes that come first stand at their place,
pub front_stands : (bs s rest : List ℕ) (i : ℕ) → drop i bs ≡ s ++ rest → (drop (i + length s) bs ≡ rest) × Stands bs i s (i + length s)
front_stands bs s rest i p =
    let behind : drop (i + length s) bs ≡ rest = sym (drop-drop (length s) i bs) ∙ ap (drop (length s)) p ∙ drop_at s rest (length s) refl in
    (behind, (p ∙ ap (λ x. s ++ x) (sym behind), refl))

-- and of what stands in two parts, the second stands behind the first.
pub stands_split : (bs s t : List ℕ) (i k : ℕ) → Stands bs i (s ++ t) k → (j : ℕ) × Stands bs i s j × Stands bs j t k
stands_split bs s t i k (p, q) =
    let (behind, first) = front_stands bs s (t ++ drop k bs) i (p ∙ append_assoc s t (drop k bs)) in
    (i + length s, first, (behind, omega (arith, q, length-append s t)))

-- At a place stands one number at most, and it is not beyond the end.
pub reads_unique : (bs : List ℕ) (i m n j k : ℕ) → Reads bs i m j → Reads bs i n k → (m ≡ n) × (j ≡ k)
reads_unique bs i m n j k (a, (p, q)) (b, (p', q')) =
    let u = encode_unique m n (drop j bs) (drop k bs) (sym p ∙ p') in (u.0, omega (arith, q, q', ap (λ x. length (encode x)) u.0))

pub reads_inside : (bs : List ℕ) (i n j : ℕ) → Reads bs i n j → length bs ≤ i → ⊥
reads_inside bs i n j (a, (p, q)) h =
    omega (arith, ap length p, length-drop i bs, length-append (encode n) (drop j bs), length_push (marked (n / 128)) (n % 128))

pub reads_no_fault : (bs : List ℕ) (i n j : ℕ) (f : NumberFault) → Reads bs i n j → NumberAt bs i (Err f) → ⊥
reads_no_fault bs i n j f r h = let e = number_only bs i (Err f) h n j r in let z : ◌≡◌ {A = ℕ} 0 1 = cc in omega arith

-- A code is a number of at most four groups.
pub code_number : (k : Kind) (n : ℕ) → IsCode k n → n < 268435456
code_number Modes n h = omega arith
code_number Taps n h = omega arith

-- The first of some codes stands as a number, and the others behind it.
pub first_code : (k : Kind) (bs ds : List ℕ) (d i j : ℕ) → CodesRead k bs i (d ∷ ds) j → (m : ℕ) × Reads bs i d m × IsCode k d × CodesRead k bs m ds j
first_code k bs ds d i j (s, (code, all)) = let (m, here, behind) = stands_split bs (encode d) (encode_codes ds) i j s in (m, (code_number k d code, here), code, (behind, all))

-- Where codes stand, and fewer of them were read: another is due.
codes_next : (k : Kind) (bs cs ds : List ℕ) (i j e : ℕ) → CodesRead k bs i cs j → CodesRead k bs i ds e → length cs < length ds
    → (d : ℕ) × (m : ℕ) × Reads bs j d m × IsCode k d
codes_next k bs cs [] i j e c d l = absurd (omega arith)
codes_next k bs [] (d ∷ ds) i j e ((p, q), none) s l =
    let (m, here, code, behind) = first_code k bs ds d i e s in
    let i-is : i ≡ j = omega (arith, q) in
    (d, m, subst (λ p. Reads bs p d m) i-is here, code)
codes_next k bs (c ∷ cs) (d ∷ ds) i j e r s l =
    let (m, here, code, behind) = first_code k bs ds d i e s in
    let (m', here', code', behind') = first_code k bs cs c i j r in
    let same = reads_unique bs i d c m m' here here' in
    codes_next k bs cs ds m' j e behind' (subst (λ p. CodesRead k bs p ds e) same.1 behind) (omega arith)

-- As many codes at one place are the same codes.
codes_same : (k : Kind) (bs cs ds : List ℕ) (i j e : ℕ) → CodesRead k bs i cs j → CodesRead k bs i ds e → length cs ≡ length ds → (cs ≡ ds) × (j ≡ e)
codes_same k bs [] [] i j e ((p, q), none) ((p', q'), none') l = (refl, omega (arith, q, q'))
codes_same k bs [] (d ∷ ds) i j e r s l = absurd (omega arith)
codes_same k bs (c ∷ cs) [] i j e r s l = absurd (omega arith)
codes_same k bs (c ∷ cs) (d ∷ ds) i j e r s l =
    let (m, here, code, behind) = first_code k bs ds d i e s in
    let (m', here', code', behind') = first_code k bs cs c i j r in
    let same = reads_unique bs i c d m' m here' here in
    let rest = codes_same k bs cs ds m' j e behind' (subst (λ p. CodesRead k bs p ds e) (sym same.1) behind) (omega arith) in
    (cc (same.0, rest.0), rest.1)

module _ (k : Kind) (bs : List ℕ) (last i : ℕ) (e : Entry) (j : ℕ) (allowed : Allowed k last e) (s : Stands bs i (encode_entry e) j) where
  -- The numbers of the entry, each at its place.
  record Parts : Type 0 where
    count_at : ℕ
    codes_at : ℕ
    plate : Reads bs i e.plate count_at
    count : Reads bs count_at (length e.codes) codes_at
    codes : CodesRead k bs codes_at e.codes j

  parts : Parts
  parts =
      let (m, here, behind) = stands_split bs (encode e.plate) (encode (length e.codes) ++ encode_codes e.codes) i j s in
      let (n, here', behind') = stands_split bs (encode (length e.codes)) (encode_codes e.codes) m j behind in
      let few = allowed.few in
      record { count_at = m; codes_at = n; plate = (allowed.number, here); count = (omega (arith, few), here'); codes = (behind', allowed.coded) }

  -- A head that was read is the entry's.
  head_same : (plate count m : ℕ) → HeadRead bs last i plate count m → (plate ≡ e.plate) × (count ≡ length e.codes) × (m ≡ parts.codes_at)
  head_same plate count m (n, (plate-read, rises), count-read, few) =
      let first = reads_unique bs i plate e.plate n parts.count_at plate-read parts.plate in
      let second = reads_unique bs parts.count_at count (length e.codes) m parts.codes_at (subst (λ p. Reads bs p count m) first.1 count-read) parts.count in
      (first.0, second.0, second.1)

  -- Where the count is due, it stands;
  count_due : (p : ℕ) → CountDue bs last i p → Reads bs p (length e.codes) parts.codes_at
  count_due p (plate, (r, rises)) =
      subst (λ q. Reads bs q (length e.codes) parts.codes_at) (reads_unique bs i e.plate plate parts.count_at p parts.plate r).1 parts.count

  -- and where a code is due, one of the entry's codes stands.
  code_due : (p : ℕ) → CodeDue k bs last i p → (d : ℕ) × (m : ℕ) × Reads bs p d m × IsCode k d
  code_due p (plate, count, m, cs, head, read, due) =
      let same = head_same plate count m head in
      codes_next k bs cs e.codes parts.codes_at p j (subst (λ q. CodesRead k bs q cs p) same.2 read) parts.codes (omega (arith, same.1))

  -- So no fault is met.
  no_fault : (f : FileFault) → RecordFault k bs last i f → ⊥
  no_fault (Number f) h = h
  no_fault (UnknownKind p) h = h
  no_fault (InRecord f p) (here, m, inl at, h) = reads_no_fault bs m e.plate parts.count_at f (subst (λ q. Reads bs q e.plate parts.count_at) (sym at) parts.plate) h
  no_fault (InRecord f p) (here, m, inr (inl due), h) = reads_no_fault bs m (length e.codes) parts.codes_at f (count_due m due) h
  no_fault (InRecord f p) (here, m, inr (inr due), h) = let (d, n, r, code) = code_due m due in reads_no_fault bs m d n f r h
  no_fault (PlateNotRising p) (here, n, m, r, low) =
      let same = reads_unique bs i n e.plate m parts.count_at (subst (λ q. Reads bs q n m) here r) parts.plate in
      omega (arith, same.0, allowed.rises)
  no_fault (CountTooLarge p) (due, n, m, r, high) = let same = reads_unique bs p n (length e.codes) m parts.codes_at r (count_due p due) in omega (arith, same.0, allowed.few)
  no_fault (NotACode p) (due, n, m, r, none) =
      let (d, l, r', code) = code_due p due in none (subst (IsCode k) (sym (reads_unique bs p n d m l r r').0) code)

-- Where an allowed entry stands, the reader gives it.
record_only : (a : Reader) (r : Result (Option Record) FileFault) (b : Reader) → Next a r b → (e : Entry) (j : ℕ) → Allowed a.kind a.last e
    → Stands a.bytes.now a.at (encode_entry e) j → Gives e a.at j r b
record_only a (Ok None) b (end, same) e j allowed s = let x = parts a.kind a.bytes.now a.last a.at e j allowed s in reads_inside _ _ _ _ x.plate end
record_only a (Ok (Some r)) b (e', allowed', s', (plate, count, place, bytes), same) e j allowed s =
    let k = a.kind in
    let bs = a.bytes.now in
    let x = parts k bs a.last a.at e j allowed s in
    let x' = parts k bs a.last a.at e' b.at allowed' s' in
    let head = head_same k bs a.last a.at e j allowed s e'.plate (length e'.codes) x'.codes_at (x'.count_at, (x'.plate, allowed'.rises), x'.count, allowed'.few) in
    let codes = codes_same k bs e'.codes e.codes x.codes_at b.at j (subst (λ q. CodesRead k bs q e'.codes b.at) head.2 x'.codes) x.codes head.1 in
    ((plate ∙ head.0, count ∙ head.1, place, bytes ∙ ap encode_codes codes.0), codes.1)
record_only a (Err f) b (inside, fault, same) e j allowed s = no_fault a.kind a.bytes.now a.last a.at e j allowed s f fault

pub next_read : (a : Reader) (r : Result (Option Record) FileFault) (b : Reader) → Next a r b → NextRead a r b
next_read a r b h = record { answer = h; only = record_only a r b h }
