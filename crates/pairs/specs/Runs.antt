-- A whole run over a word file: which lines it prints.
use Rattle.std.specs.Prelude.{◌≡◌, ℕ, ◌<◌, ◌≤◌, Bool, true, false, ◌⊎◌, List, [], ◌∷◌, ◌++◌, map, length, Ok, Err, Result}
use Rattle.std.specs.List.{flat_map, AllByRecursion}
use Rattle.letters.specs.declared.kind.Kind.{Kind}
use Rattle.letters.specs.declared.kind.Kind.TheVariants.{Modes, Taps}
use Rattle.letters.specs.Modes.{ModeNumber, mode_order}
use Rattle.letters.specs.Taps.{TapNumbers, tap_code, tap_order}
use Rattle.words.specs.declared.told.Side.{Side}
use Rattle.words.specs.declared.told.Side.TheVariants.{Left}
use Rattle.words.specs.Letters.{Before}
use Rattle.words.specs.Separating.{TellsOn}
use Rattle.words.specs.Words.{FirstTelling}
use Rattle.strips.specs.declared.fault.StripFault.{StripFault}
use Rattle.files.specs.declared.fault.FileFault.{FileFault}
use Rattle.files.specs.Line.{line_text, refusal_text}
use Rattle.files.specs.Numbers.{Stands}
use Rattle.files.specs.Records.{Allowed, Rising, last_plate, encode_entry, encode_file, RecordFault, Opened}
use Rattle.pairs.specs.declared.fault.RunFault.{RunFault}
use Rattle.pairs.specs.declared.fault.RunFault.TheVariants.{FileTooLong, File, Record}
use Rattle.pairs.specs.Faults.{run_fault}
use Rattle.pairs.specs.Plates.{Plate, entry_of, Holds, Overfull}

-- The line of a refusal that ends a run.
abbrev pub fault_line : RunFault → List ℕ
fault_line fault = refusal_text (run_fault fault).0 (run_fault fault).1

module _ {L : Type 0} (lt : L → L → Type 0) (kind : Kind) (InRange : L → Type 0) (code : L → ℕ) where
  -- The line of two plates: that their words are equal, or the first telling row of the words with the side that has it.
  pub data Line (p q : Plate L) : List ℕ → Type 0 where
    equal : p.word ≡ q.word → Line p q (line_text p.number q.number Left [])
    told : (side : Side) (row : List L) → FirstTelling lt row p.word q.word → TellsOn side row p.word q.word
        → Line p q (line_text p.number q.number side (map code row))

  -- The lines of plates: one for each plate and the next.
  pub data Lines : List (Plate L) → List (List ℕ) → Type 0 where
    no_plate : Lines [] []
    one_plate : (p : Plate L) → Lines (p ∷ []) []
    next_plate : (ps : List (Plate L)) (p q : Plate L) (ls : List (List ℕ)) (l : List ℕ) → Lines (ps ++ (p ∷ [])) ls → Line p q l
        → Lines ((ps ++ (p ∷ [])) ++ (q ∷ [])) (ls ++ (l ∷ []))

  -- The bytes begin with a file of these plates, each of which goes on a strip of 400 letters; place j is the next.
  pub record Begins (bs : List ℕ) (ps : List (Plate L)) (j : ℕ) : Type 0 where
    pub stands : Stands bs 0 (encode_file kind (map (entry_of code) ps)) j
    pub rising : Rising kind 0 (map (entry_of code) ps)
    pub letters : AllByRecursion (λ p. AllByRecursion InRange p.word) ps
    pub held : AllByRecursion (λ p. Holds 400 p.word) ps

  -- How a run ends at the place j, after the plate `last`: no byte is left, and nothing more is printed; or the reader refuses
  -- the record there; or the record is that of a plate whose word does not go on a strip of 400 letters.
  pub data Ends (bs : List ℕ) (last j : ℕ) : List (List ℕ) → Type 0 where
    file_ends : length bs ≤ j → Ends bs last j []
    record_refused : (fault : FileFault) → j < length bs → RecordFault kind bs last j fault → Ends bs last j (fault_line (File fault) ∷ [])
    word_refused : (p : Plate L) (next : ℕ) (v : List L) (fault : StripFault) → AllByRecursion InRange p.word → Allowed kind last (entry_of code p)
        → Stands bs j (encode_entry (entry_of code p)) next → Overfull 400 p.word v fault → Ends bs last j (fault_line (Record fault j) ∷ [])

  -- The first lines of a run,
  pub data BeganOf (bs : List ℕ) : List (List ℕ) → Type 0 where
    began : (ps : List (Plate L)) (j : ℕ) (ls : List (List ℕ)) → Begins bs ps j → Lines ps ls → BeganOf bs ls

  -- and all of them.
  pub data RunOf (bs : List ℕ) : List (List ℕ) → Type 0 where
    ran : (ps : List (Plate L)) (j : ℕ) (ls ends : List (List ℕ)) → Begins bs ps j → Lines ps ls
        → Ends bs (last_plate 0 (map (entry_of code) ps)) j ends → RunOf bs (ls ++ ends)

-- The first lines that a run prints over the bytes of a file, of whichever kind.
pub data Began (bs : List ℕ) : List (List ℕ) → Type 0 where
  nothing_yet : Began bs []
  some_modes : (ls : List (List ℕ)) → BeganOf (Before mode_order) Modes (λ m. ModeNumber m.value) (λ m. m.value) bs ls → Began bs ls
  some_taps : (ls : List (List ℕ)) → BeganOf (Before tap_order) Taps (λ t. TapNumbers t.zone t.step) tap_code bs ls → Began bs ls

-- All lines that it prints: the refusal of a file that is too long, or whose kind is refused, or those of a run.
pub data Printed (bs : List ℕ) : List (List ℕ) → Type 0 where
  too_long : 16384 < length bs → Printed bs (fault_line FileTooLong ∷ [])
  not_opened : (fault : FileFault) → length bs ≤ 16384 → Opened bs (Err fault) → Printed bs (fault_line (File fault) ∷ [])
  all_modes : (ls : List (List ℕ)) → length bs ≤ 16384 → RunOf (Before mode_order) Modes (λ m. ModeNumber m.value) (λ m. m.value) bs ls → Printed bs ls
  all_taps : (ls : List (List ℕ)) → length bs ≤ 16384 → RunOf (Before tap_order) Taps (λ t. TapNumbers t.zone t.step) tap_code bs ls → Printed bs ls

-- The same as one text.
abbrev pub PrintedText : List ℕ → List ℕ → Type 0
PrintedText bs text = (ls : List (List ℕ)) × Printed bs ls × (text ≡ flat_map (λ l. l) ls)

module _ {S : Type 0} (took : S → List ℕ → Bool → S → Type 0) where
  -- The sink s took the lines, one after the other, and is t now.
  pub data Took (s : S) : List (List ℕ) → S → Type 0 where
    none_taken : Took s [] s
    one_taken : (ls : List (List ℕ)) (m : S) (l : List ℕ) (t : S) → Took s ls m → took m l true t → Took s (ls ++ (l ∷ [])) t

  -- What a whole run answers: the sink took all lines; or it took the first lines, and refused the next.
  abbrev pub RunAnswer : {E : Type 0} → List ℕ → S → Result (Unit {0}) E → S → Type 0
  RunAnswer bs s (Ok done) t = (ls : List (List ℕ)) × Printed bs ls × Took s ls t
  RunAnswer bs s (Err error) t =
      (ls : List (List ℕ)) × (m : S) × (l : List ℕ) × Began bs ls × Took s ls m × (Began bs (ls ++ (l ∷ [])) ⊎ Printed bs (ls ++ (l ∷ []))) × took m l false t
