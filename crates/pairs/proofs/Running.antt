-- What a run keeps true from plate to plate, and how it ends.
use Rattle.std.proofs.Common.{◌≡◌, ℕ, Bool, List, [], ◌∷◌, ◌++◌, map, Some, None, Ok, Err, Option, Result, sym, refl, ap, ◌∙◌, subst, inl, inr, append-nil}
use Rattle.std.proofs.lemmas.List.{map_push, flat_map_more}
use Rattle.std.specs.List.{AllByRecursion}
use Rattle.letters.specs.declared.kind.Kind.{Kind}
use Rattle.letters.specs.Kinds.{kind_number}
use Rattle.strips.specs.declared.strip.Strip.{Strip}
use Rattle.strips.specs.Strips.{word_of, capacity_of}
use Rattle.files.specs.declared.reader.Reader.{Reader}
use Rattle.files.specs.Numbers.{encode, Stands}
use Rattle.files.specs.Records.{Allowed, Rising, last_plate, encode_entry, encode_file}
use Rattle.files.proofs.Progress.{last_push, rising_push}
use Rattle.files.proofs.Reading.{stands_append}
use Rattle.pairs.specs.declared.stop.Stop.{Stop}
use Rattle.pairs.specs.declared.stop.Stop.TheVariants.{Refused, Unprinted}
use Rattle.pairs.specs.declared.fault.RunFault.{RunFault}
use Rattle.pairs.specs.declared.fault.RunFault.TheVariants.{FileTooLong, File, Record, Question, Write}
use Rattle.pairs.specs.Plates.{Plate, entry_of, Given, Holds, Overfull, Loaded, PlateAnswer}
use Rattle.pairs.specs.Runs.{Line, Lines, no_plate, one_plate, next_plate, Begins, Ends, file_ends, record_refused, word_refused, BeganOf, began, RunOf, ran, Took, none_taken, one_taken, fault_line}
use Rattle.pairs.specs.Steps.{Fresh, Standing, Advanced, PlatesAnswer}

all_push : {A : Type 0} (P : A → Type 0) (xs : List A) (x : A) → AllByRecursion P xs → P x → AllByRecursion P (xs ++ (x ∷ []))
all_push P [] x h p = (p, tt)
all_push P (y ∷ xs) x (h, hs) p = (h, all_push P xs x hs p)

module _ {L : Type 0} (lt : L → L → Type 0) (kind : Kind) (InRange : L → Type 0) (code : L → ℕ) where
  -- The reader a has read the plates ps of the file, whose lines are ls.
  pub record At (bs : List ℕ) (a : Reader) (ps : List (Plate L)) (ls : List (List ℕ)) : Type 0 where
    pub bytes : a.bytes.now ≡ bs
    pub same_kind : a.kind ≡ kind
    pub begins : Begins lt kind InRange code bs ps a.at
    pub last : a.last ≡ last_plate 0 (map (entry_of code) ps)
    pub lines : Lines lt kind InRange code ps ls

  pub at_start : (a : Reader) → Fresh kind a → At a.bytes.now a [] []
  at_start a f =
      record {
        bytes = refl;
        same_kind = f.same_kind;
        begins = record {
          stands = subst (λ s. Stands a.bytes.now 0 s a.at) (sym (append-nil (encode (kind_number kind)))) f.behind.1;
          rising = tt;
          letters = tt;
          held = tt;
        };
        last = f.first;
        lines = no_plate;
      }

  -- One plate more.
  begins_more : (bs : List ℕ) (a b : Reader) (ps : List (Plate L)) (q : Plate L) → a.bytes.now ≡ bs → a.last ≡ last_plate 0 (map (entry_of code) ps)
      → Begins lt kind InRange code bs ps a.at → Given kind InRange code a q b → Holds 400 q.word → Begins lt kind InRange code bs (ps ++ (q ∷ [])) b.at
  begins_more bs a b ps q bytes last h given holds =
      let es = map (entry_of code) ps in
      let e = entry_of code q in
      let more : map (entry_of code) (ps ++ (q ∷ [])) ≡ es ++ (e ∷ []) = map_push (entry_of code) ps q in
      let file : encode_file kind es ++ encode_entry e ≡ encode_file kind (map (entry_of code) (ps ++ (q ∷ []))) =
      flat_map_more encode_entry (encode (kind_number kind)) es e ∙ ap (encode_file kind) (sym more) in
      let here : Stands bs a.at (encode_entry e) b.at = subst (λ x. Stands x a.at (encode_entry e) b.at) bytes given.stands in
      record {
        stands = subst (λ s. Stands bs 0 s b.at) file (stands_append bs (encode_file kind es) (encode_entry e) 0 a.at b.at h.stands here);
        rising = subst (Rising kind 0) (sym more) (rising_push kind 0 es e h.rising (subst (λ n. Allowed kind n e) last given.allowed));
        letters = all_push (λ p. AllByRecursion InRange p.word) ps q h.letters given.letters;
        held = all_push (λ p. Holds 400 p.word) ps q h.held holds;
      }

  at_more : (bs : List ℕ) (a b : Reader) (ps : List (Plate L)) (q : Plate L) (ls ls' : List (List ℕ)) → At bs a ps ls → Given kind InRange code a q b → Holds 400 q.word
      → Lines lt kind InRange code (ps ++ (q ∷ [])) ls' → At bs b (ps ++ (q ∷ [])) ls'
  at_more bs a b ps q ls ls' h given holds lines =
      let es = map (entry_of code) ps in
      record {
        bytes = ap (λ x. x.bytes.now) given.after ∙ h.bytes;
        same_kind = ap (λ x. x.kind) given.after ∙ h.same_kind;
        begins = begins_more bs a b ps q h.bytes h.last h.begins given holds;
        last = ap (λ x. x.last) given.after ∙ sym (last_push 0 es (entry_of code q)) ∙ ap (last_plate 0) (sym (map_push (entry_of code) ps q));
        lines = lines;
      }

  pub at_first : (bs : List ℕ) (a b : Reader) (q : Plate L) → At bs a [] [] → Given kind InRange code a q b → Holds 400 q.word → At bs b (q ∷ []) []
  at_first bs a b q h given holds = at_more bs a b [] q [] [] h given holds (one_plate q)

  pub at_next : (bs : List ℕ) (a b : Reader) (ps : List (Plate L)) (p q : Plate L) (ls : List (List ℕ)) (l : List ℕ) → At bs a (ps ++ (p ∷ [])) ls → Given kind InRange code a q b
      → Holds 400 q.word → Line lt kind InRange code p q l → At bs b ((ps ++ (p ∷ [])) ++ (q ∷ [])) (ls ++ (l ∷ []))
  at_next bs a b ps p q ls l h given holds line = at_more bs a b (ps ++ (p ∷ [])) q ls (ls ++ (l ∷ [])) h given holds (next_plate ps p q ls l h.lines line)

  pub at_end : (bs : List ℕ) (a : Reader) (ps : List (Plate L)) (ls ends : List (List ℕ)) → At bs a ps ls
      → Ends lt kind InRange code a.bytes.now a.last a.at ends → RunOf lt kind InRange code bs (ls ++ ends)
  at_end bs a ps ls ends h e =
      ran ps a.at ls ends h.begins h.lines
      (subst (λ n. Ends lt kind InRange code bs n a.at ends) h.last (subst (λ x. Ends lt kind InRange code x a.last a.at ends) h.bytes e))

  pub at_began : (bs : List ℕ) (a : Reader) (ps : List (Plate L)) (ls : List (List ℕ)) → At bs a ps ls → BeganOf lt kind InRange code bs ls
  at_began bs a ps ls h = began ps a.at ls h.begins h.lines

module _ {L S : Type 0} (lt : L → L → Type 0) (kind : Kind) (InRange : L → Type 0) (code : L → ℕ) (took : S → List ℕ → Bool → S → Type 0) where
  -- The run stands at the plate of this number, whose word is on the strip `earlier`, and the sink has taken the lines so far.
  pub record Running (bs : List ℕ) (from : S) (a : Reader) (number : ℕ) (earlier later : Strip L) (to : S) : Type 0 where
    pub plates : List (Plate L)
    pub texts : List (List ℕ)
    pub at : At lt kind InRange code bs a (plates ++ (record { number = number; word = word_of earlier } ∷ [])) texts
    pub taken : Took took from texts to
    pub standing : Standing kind InRange a earlier later

  -- Given a plate, it stands on a strip.
  stands_on : (a b : Reader) (n : ℕ) (w : List L) (s t other : Strip L) → a.kind ≡ kind → capacity_of s ≡ 400 → capacity_of other ≡ 400
      → Given kind InRange code a (record { number = n; word = w }) b → Loaded s w (Ok tt) t → Standing kind InRange b t other
  stands_on a b n w s t other same size size' given (word, holds, behind) =
      record {
        same_kind = ap (λ x. x.kind) given.after ∙ same;
        earlier_size = behind.capacity ∙ size;
        later_size = size';
        letters = subst (AllByRecursion InRange) (sym word) given.letters;
      }

  on_strip : (s t : Strip L) (w : List L) → capacity_of s ≡ 400 → Loaded s w (Ok tt) t → Holds 400 (word_of t)
  on_strip s t w size (word, holds, behind) = subst (λ c. Holds c (word_of t)) size (subst (Holds (capacity_of s)) (sym word) holds)

  as_loaded : (a b : Reader) (n : ℕ) (w : List L) (s t : Strip L) → Loaded s w (Ok tt) t → Given kind InRange code a (record { number = n; word = w }) b
      → Given kind InRange code a (record { number = n; word = word_of t }) b
  as_loaded a b n w s t (word, holds, behind) given = subst (λ v. Given kind InRange code a (record { number = n; word = v }) b) (sym word) given

  pub running_first : (a b : Reader) (n : ℕ) (left left' right : Strip L) (from : S) (o : Option ℕ) → Fresh kind a → capacity_of left ≡ 400 → capacity_of right ≡ 400
      → o ≡ Some n → PlateAnswer kind InRange code a left (Ok o) b left' → Running a.bytes.now from b n left' right from
  running_first a b n left left' right from o fresh size size' is answer =
      let (w, given, loaded) = subst (λ x. PlateAnswer kind InRange code a left (Ok x) b left') is answer in
      record {
        plates = [];
        texts = [];
        at = at_first lt kind InRange code a.bytes.now a b _ (at_start lt kind InRange code a fresh) (as_loaded a b n w left left' loaded given) (on_strip left left' w size loaded);
        taken = none_taken;
        standing = stands_on a b n w left left' right fresh.same_kind size size' given loaded;
      }

  -- A step: the strips change their parts.
  module _ (bs : List ℕ) (from : S) (a b : Reader) (number : ℕ) (earlier later later' : Strip L) (to to' : S) (r : Running bs from a number earlier later to) where
    abbrev Steps : Result (Option ℕ) Stop → Type 0
    Steps answer = Advanced lt kind InRange code took a (record { number = number; word = word_of earlier }) later to answer b later' to'

    pub running_next : (n : ℕ) (o : Option ℕ) → o ≡ Some n → Steps (Ok o) → Running bs from b n later' earlier to'
    running_next n o is advanced =
        let (w, given, loaded, l, line, taken) = subst (λ x. Steps (Ok x)) is advanced in
        record {
          plates = r.plates ++ (record { number = number; word = word_of earlier } ∷ []);
          texts = r.texts ++ (l ∷ []);
          at = at_next lt kind InRange code bs a b r.plates (record { number = number; word = word_of earlier }) (record { number = n; word = word_of later' }) r.texts l r.at
              (as_loaded a b n w later later' loaded given) (on_strip later later' w r.standing.later_size loaded)
              (subst (λ v. Line lt kind InRange code (record { number = number; word = word_of earlier }) (record { number = n; word = v }) l) (sym loaded.0) line);
          taken = one_taken r.texts to l to' r.taken taken;
          standing = stands_on a b n w later later' earlier r.standing.same_kind r.standing.later_size r.standing.earlier_size given loaded;
        }

    -- The run is at the end of the file,
    pub running_end : (o : Option ℕ) → o ≡ None → Steps (Ok o) → PlatesAnswer lt kind InRange code took bs from (Ok tt) to'
    running_end o is advanced =
        let (ends, same) = subst (λ x. Steps (Ok x)) is advanced in (
          r.texts,
          subst (RunOf lt kind InRange code bs) (append-nil r.texts) (at_end lt kind InRange code bs a _ r.texts [] r.at ends),
          subst (Took took from r.texts) (sym same) r.taken,
        )

    -- or it stops before.
    pub running_stops : (stop : Stop) → Steps (Err stop) → PlatesAnswer lt kind InRange code took bs from (Err stop) to'
    running_stops (Refused fault) (ends, same) = (
      r.texts,
      at_began lt kind InRange code bs a _ r.texts r.at,
      at_end lt kind InRange code bs a _ r.texts (fault_line fault ∷ []) r.at ends,
      subst (Took took from r.texts) (sym same) r.taken,
    )
    running_stops (Unprinted error) (q, given, holds, l, line, refused) =
        let next = at_next lt kind InRange code bs a b r.plates _ q r.texts l r.at given holds line in
        (r.texts, to, l, at_began lt kind InRange code bs a _ r.texts r.at, r.taken, at_began lt kind InRange code bs b _ _ next, refused)

  -- A run without plates: the file has no record,
  pub empty_run : (a b : Reader) (left left' : Strip L) (from : S) (o : Option ℕ) → Fresh kind a → o ≡ None → PlateAnswer kind InRange code a left (Ok o) b left'
      → PlatesAnswer lt kind InRange code took a.bytes.now from (Ok tt) from
  empty_run a b left left' from o fresh is answer =
      let (same, end, kept, on) = subst (λ x. PlateAnswer kind InRange code a left (Ok x) b left') is answer in
      ([], at_end lt kind InRange code a.bytes.now a [] [] [] (at_start lt kind InRange code a fresh) (file_ends end), none_taken)

  -- or its first record is refused.
  first_ends : (a b : Reader) (left left' : Strip L) (f : RunFault) → Fresh kind a → capacity_of left ≡ 400 → PlateAnswer kind InRange code a left (Err f) b left'
      → Ends lt kind InRange code a.bytes.now a.last a.at (fault_line f ∷ [])
  first_ends a b left left' (File f) fresh size (inl (other, is), kept, on) = absurd (other fresh.same_kind)
  first_ends a b left left' (File f) fresh size (inr (same, inside, fault), kept, on) = record_refused f inside fault
  first_ends a b left left' (Record f place) fresh size (q, given, here, (over, behind)) =
      subst (λ n. Ends lt kind InRange code a.bytes.now a.last a.at (fault_line (Record f n) ∷ [])) (sym here)
      (word_refused q b.at (word_of left') f given.letters given.allowed given.stands (subst (λ n. Overfull n q.word (word_of left') f) size over))
  first_ends a b left left' FileTooLong fresh size h = absurd h
  first_ends a b left left' (Question f) fresh size h = absurd h
  first_ends a b left left' (Write f) fresh size h = absurd h

  pub refused_run : (a b : Reader) (left left' : Strip L) (f : RunFault) (from : S) → Fresh kind a → capacity_of left ≡ 400
      → PlateAnswer kind InRange code a left (Err f) b left' → PlatesAnswer lt kind InRange code took a.bytes.now from (Err (Refused f)) from
  refused_run a b left left' f from fresh size answer =
      let start = at_start lt kind InRange code a fresh in (
        [],
        at_began lt kind InRange code a.bytes.now a [] [] start,
        at_end lt kind InRange code a.bytes.now a [] [] (fault_line f ∷ []) start (first_ends a b left left' f fresh size answer),
        none_taken,
      )
