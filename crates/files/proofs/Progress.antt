-- What a listing keeps true from record to record: the entries read so far are told, and counted.
use Rattle.std.proofs.Common.{◌≡◌, ℕ, ◌+◌, ◌/◌, ◌%◌, ◌<◌, ◌≤◌, List, [], ◌∷◌, ◌++◌, length, Some, None, Ok, Err, sym, refl, ap, ◌∙◌, subst, append_assoc, append-nil, arith, length-append}
use Rattle.std.proofs.lemmas.List.{length_push, flat_map_more, drop_all}
use Rattle.std.specs.List.{flat_map}
use Rattle.letters.specs.declared.kind.Kind.{Kind}
use Rattle.files.specs.declared.fault.FileFault.{FileFault}
use Rattle.files.specs.declared.reader.Reader.{Reader}
use Rattle.files.specs.declared.reader.Record.{Record}
use Rattle.files.specs.Listing.{kind_line, entry_line, letter_count, total_line, fault_line, Listed, whole, broken}
use Rattle.files.specs.Steps.{Entries, no_entry, one_more, RecordsListed, to_end, to_fault}
use Rattle.files.specs.Numbers.{marked, encode, Stands}
use Rattle.letters.specs.Kinds.{kind_number}
use Rattle.files.specs.Records.{Entry, Allowed, Shows, Opened, Next, RecordFault, Rising, last_plate, encode_codes, encode_entry, encode_file}
use Rattle.files.proofs.Reading.{stands_within, reads_within, stands_none, stands_append}

-- The reader a has read the entries since it was a₀, and the text tells them after what it had.
pub record Progress (a₀ : Reader) (old : List ℕ) (a : Reader) (text : List ℕ) (plates letters : ℕ) : Type 0 where
  pub entries : List Entry
  pub same_bytes : a.bytes ≡ a₀.bytes
  pub same_kind : a.kind ≡ a₀.kind
  pub read : a₀.last ≡ 0 → Entries a₀.kind a₀.bytes.now a₀.at entries a.last a.at
  pub said : text ≡ old ++ flat_map entry_line entries
  pub plates_are : plates ≡ length entries
  pub letters_are : letters ≡ letter_count entries
  pub passed : plates + letters ≤ a.at
  pub within : a₀.at ≤ length a₀.bytes.now → a.at ≤ length a₀.bytes.now

pub progress_start : (a : Reader) (old : List ℕ) → Progress a old a old 0 0
progress_start a old = record {
  entries = [];
  same_bytes = refl;
  same_kind = refl;
  read = λ e. subst (λ n. Entries a.kind a.bytes.now a.at [] n a.at) (sym e) no_entry;
  said = sym (append-nil old);
  plates_are = refl;
  letters_are = refl;
  passed = omega arith;
  within = λ h. h;
}

-- An entry has more bytes than letters.
number_long : (n : ℕ) → 0 < length (encode n)
number_long n = omega (arith, length_push (marked (n / 128)) (n % 128))

codes_long : (cs : List ℕ) → length cs ≤ length (encode_codes cs)
codes_long [] = omega arith
codes_long (c ∷ cs) = omega (arith, length-append (encode c) (encode_codes cs), number_long c, codes_long cs)

pub entry_long : (e : Entry) → 1 + length e.codes ≤ length (encode_entry e)
entry_long e =
    omega (
      arith,
      length-append (encode e.plate) (encode (length e.codes) ++ encode_codes e.codes),
      length-append (encode (length e.codes)) (encode_codes e.codes),
      number_long e.plate,
      codes_long e.codes,
    )

letters_push : (es : List Entry) (e : Entry) → letter_count (es ++ (e ∷ [])) ≡ letter_count es + length e.codes
letters_push [] e = omega arith
letters_push (x ∷ es) e = omega (arith, letters_push es e)

module _ (a₀ : Reader) (old : List ℕ) (a : Reader) (text : List ℕ) (plates letters : ℕ) (s : Progress a₀ old a text plates letters) where
  -- One record more.
  pub progress_more : (r : Record) (b : Reader) (text' : List ℕ) → Next a (Ok (Some r)) b
      → ((k : Kind) (last place : ℕ) (e : Entry) → Allowed k last e → Shows e place r → text' ≡ text ++ entry_line e)
      → Progress a₀ old b text' (plates + 1) (letters + r.count)
  progress_more r b text' (e, allowed, stands, shows, same) line =
      let bytes : b.bytes ≡ a₀.bytes = ap (λ x. x.bytes) same ∙ s.same_bytes in
      let kind : b.kind ≡ a₀.kind = ap (λ x. x.kind) same ∙ s.same_kind in
      let stands₀ : Stands a₀.bytes.now a.at (encode_entry e) b.at = subst (λ x. Stands x.now a.at (encode_entry e) b.at) s.same_bytes stands in
      record {
        entries = s.entries ++ (e ∷ []);
        same_bytes = bytes;
        same_kind = kind;
        read = λ first.
            subst (λ n. Entries a₀.kind a₀.bytes.now a₀.at (s.entries ++ (e ∷ [])) n b.at) (sym (ap (λ x. x.last) same))
            (one_more s.entries a.last a.at e b.at (s.read first) (subst (λ k. Allowed k a.last e) s.same_kind allowed) stands₀);
        said = line a.kind a.last a.at e allowed shows ∙ ap (λ x. x ++ entry_line e) s.said ∙ flat_map_more entry_line old s.entries e;
        plates_are = omega (arith, s.plates_are, length_push s.entries e);
        letters_are = omega (arith, s.letters_are, letters_push s.entries e, shows.1);
        passed = omega (arith, s.passed, stands.1, entry_long e, shows.1);
        within = λ h. stands_within a₀.bytes.now (encode_entry e) a.at b.at stands₀ (s.within h);
      }

  -- The listing of the records, where they end or break off.
  abbrev Listing : List ℕ → Type 0
  Listing text' = (out : List ℕ) × RecordsListed a₀.kind a₀.bytes.now a₀.at out × (text' ≡ old ++ out)

  pub progress_end : (b : Reader) (text' : List ℕ) → Next a (Ok None) b → a₀.last ≡ 0 → a₀.at ≤ length a₀.bytes.now
      → text' ≡ text ++ total_line plates letters b.at → Listing text'
  progress_end b text' (end, same) first inside e =
      let es = s.entries in
      let at_end : a.at ≡ length a₀.bytes.now = omega (arith, end, s.within inside, ap (λ x. length x.now) s.same_bytes) in
      let line : total_line plates letters b.at ≡ total_line (length es) (letter_count es) (length a₀.bytes.now) =
      ap (λ n. total_line n letters b.at) s.plates_are ∙ ap (λ n. total_line (length es) n b.at) s.letters_are
      ∙ ap (λ n. total_line (length es) (letter_count es) n) (ap (λ x. x.at) same ∙ at_end) in (
        flat_map entry_line es ++ total_line (length es) (letter_count es) (length a₀.bytes.now),
        to_end es a.last (subst (λ j. Entries a₀.kind a₀.bytes.now a₀.at es a.last j) at_end (s.read first)),
        e ∙ ap (λ x. x ++ total_line plates letters b.at) s.said ∙ append_assoc old (flat_map entry_line es) (total_line plates letters b.at)
            ∙ ap (λ x. old ++ (flat_map entry_line es ++ x)) line,
      )

  pub progress_fault : (b : Reader) (text' : List ℕ) (f : FileFault) → Next a (Err f) b → a₀.last ≡ 0 → text' ≡ text ++ fault_line f → Listing text'
  progress_fault b text' f (inside, fault, same) first e =
      let es = s.entries in (
        flat_map entry_line es ++ fault_line f,
        to_fault es a.last a.at f (s.read first) (omega (arith, inside, ap (λ x. length x.now) s.same_bytes))
            (subst (λ k. RecordFault k a₀.bytes.now a.last a.at f) s.same_kind
            (subst (λ x. RecordFault a.kind x.now a.last a.at f) s.same_bytes fault)),
        e ∙ ap (λ x. x ++ fault_line f) s.said ∙ append_assoc old (flat_map entry_line es) (fault_line f),
      )

-- One entry more at the end.
pub last_push : (last : ℕ) (es : List Entry) (e : Entry) → last_plate last (es ++ (e ∷ [])) ≡ e.plate
last_push last [] e = refl
last_push last (x ∷ es) e = last_push x.plate es e

pub rising_push : (k : Kind) (last : ℕ) (es : List Entry) (e : Entry) → Rising k last es → Allowed k (last_plate last es) e → Rising k last (es ++ (e ∷ []))
rising_push k last [] e r h = (h, tt)
rising_push k last (x ∷ es) e (g, r) h = (g, rising_push k x.plate es e r h)

-- Entries that were read one after the other stand as the encoding of a list that rises.
entries_stand : (k : Kind) (bs : List ℕ) (i : ℕ) (es : List Entry) (last j : ℕ) → Entries k bs i es last j
    → Rising k 0 es × Stands bs i (flat_map encode_entry es) j × (last ≡ last_plate 0 es)
entries_stand k bs i es last j no_entry = (tt, stands_none bs i, refl)
entries_stand k bs i es last j (one_more es' last' m e j' before allowed here) =
    let (rising, stands, is) = entries_stand k bs i es' last' m before in (
      rising_push k 0 es' e rising (subst (λ n. Allowed k n e) is allowed),
      subst (λ x. Stands bs i x j) (flat_map_more encode_entry [] es' e) (stands_append bs (flat_map encode_entry es') (encode_entry e) i m j stands here),
      sym (last_push 0 es' e),
    )

-- The listing of a file is its kind's line and the listing of its records.
pub file_listed : (a : Reader) (bs first text : List ℕ) → Opened bs (Ok a) → first ≡ kind_line a.kind
    → (a.last ≡ 0 → a.at ≤ length a.bytes.now → (out : List ℕ) × RecordsListed a.kind a.bytes.now a.at out × (text ≡ first ++ out)) → Listed bs text
file_listed a bs first text ((number, kind), fresh, bytes) line records =
    let inside : a.at ≤ length a.bytes.now = omega (arith, reads_within bs 0 (kind_number a.kind) a.at (number, kind), ap length bytes) in
    let (out, listed, e) = records fresh inside in
    subst (Listed bs) (sym (e ∙ ap (λ x. x ++ out) line)) (go out (subst (λ bs. RecordsListed a.kind bs a.at out) bytes listed))
  where
    go : (out : List ℕ) → RecordsListed a.kind bs a.at out → Listed bs (kind_line a.kind ++ out)
    go out (to_end es last read) =
        let (rising, stands, is) = entries_stand a.kind bs a.at es last (length bs) read in
        let (whole-file, _) = stands_append bs (encode (kind_number a.kind)) (flat_map encode_entry es) 0 a.at (length bs) kind stands in
        whole a.kind es rising (whole-file ∙ ap (λ x. encode_file a.kind es ++ x) (drop_all (length bs) bs (omega arith)) ∙ append-nil (encode_file a.kind es))
    go out (to_fault es last j f read before fault) =
        let (rising, stands, is) = entries_stand a.kind bs a.at es last j read in
        broken a.kind es j f rising (stands_append bs (encode (kind_number a.kind)) (flat_map encode_entry es) 0 a.at j kind stands) before
        (subst (λ n. RecordFault a.kind bs n j f) is fault)
