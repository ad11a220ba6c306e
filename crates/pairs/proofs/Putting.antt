-- Putting a word on a strip letter by letter, as its codes are read: what stays true, and how it ends.
use Rattle.std.proofs.Common.{◌≡◌, ℕ, ◌+◌, ◌-◌, ◌≤◌, List, [], ◌∷◌, ◌++◌, map, length, drop, Some, None, Ok, Err, Option, Result, sym, refl, ap, ◌∙◌, subst, append_assoc, append-nil, arith, rules, length-drop, MatchOption}
use Rattle.std.specs.Prelude.{IsOk}
use Rattle.std.proofs.lemmas.List.{length_push, drop-drop}
use Rattle.std.specs.List.{AllByRecursion}
use Rattle.letters.specs.declared.kind.Kind.{Kind}
use Rattle.letters.specs.Kinds.{IsCode}
use Rattle.files.specs.declared.fault.FileFault.{FileFault}
use Rattle.files.specs.declared.fault.FileFault.TheVariants.{Number, InRecord, UnknownKind, PlateNotRising, CountTooLarge, NotACode}
use Rattle.files.specs.Numbers.{encode, Reads}
use Rattle.files.specs.Records.{encode_codes}
use Rattle.files.specs.Words.{LetterAt, LetterRead}
use Rattle.files.proofs.OneReading.{front_stands, reads_inside}
use Rattle.strips.specs.declared.fault.StripFault.{StripFault}
use Rattle.strips.specs.declared.fault.StripFault.TheVariants.{Full, TooManyKinds, Empty}
use Rattle.strips.specs.declared.strip.Strip.{Strip}
use Rattle.strips.specs.Rule.{Put, Clear, Answer, Done, Rule, full, crowded, added}
use Rattle.strips.specs.Strips.{word_of, memory_of, capacity_of, Obeys, put_answer}
use Rattle.strips.proofs.Calls.{word_length}
use Rattle.strips.proofs.Letters.{at_most_none}
use Rattle.strips.proofs.Outcomes.{put_word, keeps_kinds, keeps_capacity, clear_memory, refused_word}
use Rattle.pairs.specs.Plates.{Holds, Overfull, too_long, too_many, Behind, Loaded}

module _ {L : Type 0} (InRange : L → Type 0) (code : L → ℕ) where
  -- Up to the place `at` the letters of u were read; the rest of the word w stands behind.
  pub record Part (bs : List ℕ) (at : ℕ) (u w : List L) : Type 0 where
    pub rest : List L
    pub split : w ≡ u ++ rest
    pub ranged : AllByRecursion InRange rest
    pub bytes : drop at bs ≡ encode_codes (map code rest)

  -- The letter a is the next of the word, read up to the place j.
  pub record OneMore (bs : List ℕ) (u w : List L) (a : L) (j : ℕ) : Type 0 where
    pub rest : List L
    pub split : w ≡ u ++ (a ∷ rest)
    pub more : Part bs j (u ++ (a ∷ [])) w

  -- What the loop keeps true: of every word that the bytes may be, the strip has the letters read so far.
  pub record Loading (bs : List ℕ) (s₀ s : Strip L) (at : ℕ) : Type 0 where
    pub part : (w : List L) → AllByRecursion InRange w → bs ≡ encode_codes (map code w) → Part bs at (word_of s) w
    pub holds : Holds (capacity_of s₀) (word_of s)
    pub behind : Behind s₀ s

module _ {L : Type 0} (kind : Kind) (InRange : L → Type 0) (letter : ℕ → Option L) (code : L → ℕ)
    (bounded : (n : ℕ) → IsCode kind n → n ≤ 268435455)
    (decodes : (n : ℕ) → MatchOption (letter n) (IsCode kind n → ⊥) (λ a. IsCode kind n × InRange a × (code a ≡ n)))
    (encodes : (a : L) → InRange a → letter (code a) ≡ Some a) where
  -- The code of a letter is a code of the kind.
  pub is_code : (a : L) → InRange a → IsCode kind (code a)
  is_code a h = go (letter (code a)) (encodes a h) (decodes (code a))
    where
      go : (o : Option L) → o ≡ Some a → MatchOption o (IsCode kind (code a) → ⊥) (λ b. IsCode kind (code a) × InRange b × (code b ≡ code a)) → IsCode kind (code a)
      go (Some b) e d = d.0
      go None e d = absurd (let z : ◌≡◌ {A = ℕ} 0 1 = cc in omega arith)

  pub code_small : (a : L) → InRange a → code a ≤ 268435455
  code_small a h = bounded (code a) (is_code a h)

  -- What a reading of the next letter means for the word.
  next_stands : (bs : List ℕ) (at : ℕ) (b : L) (rest : List L) → InRange b → drop at bs ≡ encode_codes (map code (b ∷ rest))
      → Reads bs at (code b) (at + length (encode (code b))) × (drop (at + length (encode (code b))) bs ≡ encode_codes (map code rest))
  next_stands bs at b rest h e =
      let (behind, stands) = front_stands bs (encode (code b)) (encode_codes (map code rest)) at e in
      let small = bounded (code b) (is_code b h) in
      ((omega (arith, small), stands), behind)

  no_fault : (bs : List ℕ) (at j : ℕ) (f : FileFault) → length bs ≤ at → LetterAt kind InRange code bs at (Err f) j → ⊥
  no_fault bs at j (Number f) end (inside, h, same) = omega (arith, inside)
  no_fault bs at j (NotACode p) end (here, n, m, r, h, same) = reads_inside bs at n m r end
  no_fault bs at j (InRecord f p) end h = h
  no_fault bs at j (UnknownKind p) end h = h
  no_fault bs at j (PlateNotRising p) end h = h
  no_fault bs at j (CountTooLarge p) end h = h

  none_left : (bs : List ℕ) (at : ℕ) → drop at bs ≡ [] → length bs ≤ at
  none_left bs at e = omega (arith, ap length e, length-drop at bs)

  -- It meets no fault;
  pub part_no_fault : (bs : List ℕ) (at j : ℕ) (u w : List L) (r : Result (Option L) FileFault) → Part InRange code bs at u w → LetterRead kind InRange code bs at r j → IsOk r
  part_no_fault bs at j u w (Ok n) p r = search rules
  part_no_fault bs at j u w (Err f) p r = absurd (go p.rest p.ranged p.bytes)
    where
      go : (rest : List L) → AllByRecursion InRange rest → drop at bs ≡ encode_codes (map code rest) → ⊥
      go [] h e = no_fault bs at j f (none_left bs at e) r.answer
      go (b ∷ rest) (h, hs) e =
          let only = r.only b (at + length (encode (code b))) h (next_stands bs at b rest h e).0 in
          let is : ◌≡◌ {A = Result (Option L) FileFault} (Err f) (Ok (Some b)) = only.0 in
          let z : ◌≡◌ {A = ℕ} 0 1 = cc in omega arith

  -- at the end the word is read;
  pub part_end : (bs : List ℕ) (at j : ℕ) (u w : List L) → Part InRange code bs at u w → LetterRead kind InRange code bs at (Ok None) j → u ≡ w
  part_end bs at j u w p r = go p.rest p.split p.ranged p.bytes
    where
      go : (rest : List L) → w ≡ u ++ rest → AllByRecursion InRange rest → drop at bs ≡ encode_codes (map code rest) → u ≡ w
      go [] s h e = sym (s ∙ append-nil u)
      go (b ∷ rest) s (h, hs) e =
          let only = r.only b (at + length (encode (code b))) h (next_stands bs at b rest h e).0 in
          let is : ◌≡◌ {A = Result (Option L) FileFault} (Ok None) (Ok (Some b)) = only.0 in
          let z : ◌≡◌ {A = ℕ} 0 1 = cc in absurd (omega arith)

  -- and a letter is the next of the word.
  pub part_more : (bs : List ℕ) (at j : ℕ) (u w : List L) (a : L) → Part InRange code bs at u w → LetterRead kind InRange code bs at (Ok (Some a)) j → OneMore InRange code bs u w a j
  part_more bs at j u w a p r = go p.rest p.split p.ranged p.bytes
    where
      go : (rest : List L) → w ≡ u ++ rest → AllByRecursion InRange rest → drop at bs ≡ encode_codes (map code rest) → OneMore InRange code bs u w a j
      go [] s h e = absurd (reads_inside bs at (code a) j r.answer.1 (none_left bs at e))
      go (b ∷ rest) s (h, hs) e =
          let (reads, behind) = next_stands bs at b rest h e in
          let only = r.only b (at + length (encode (code b))) h reads in
          let is : ◌≡◌ {A = Result (Option L) FileFault} (Ok (Some a)) (Ok (Some b)) = only.0 in
          let same : a ≡ b = cc in
          let split : w ≡ u ++ (a ∷ rest) = s ∙ ap (λ x. u ++ (x ∷ rest)) (sym same) in
          record {
            rest = rest;
            split = split;
            more = record {
              rest = rest;
              split = split ∙ sym (append_assoc u (a ∷ []) rest);
              ranged = hs;
              bytes = ap (λ m. drop m bs) only.1 ∙ behind;
            };
          }

  pub loading_start : (bs : List ℕ) (s : Strip L) (at : ℕ) → word_of s ≡ [] → at ≡ 0 → Loading InRange code bs s s at
  loading_start bs s at none first =
      record {
        part = λ w h e. record { rest = w; split = ap (λ u. u ++ w) (sym none); ranged = h; bytes = ap (λ n. drop n bs) first ∙ e };
        holds = subst (Holds (capacity_of s)) (sym none) (omega arith, at_most_none 64);
        behind = record { rest = refl; capacity = refl; lender = refl };
      }

  further : (m n : ℕ) (x y : List L) → m ≤ n → drop m x ≡ drop m y → drop n x ≡ drop n y
  further m n x y h e =
      let split : m + (n - m) ≡ n = omega arith in
      ap (λ i. drop i x) (sym split) ∙ sym (drop-drop (n - m) m x) ∙ ap (drop (n - m)) e ∙ drop-drop (n - m) m y ∙ ap (λ i. drop i y) split

  -- A letter was put on the strip;
  pub loading_more : (bs : List ℕ) (s₀ s t : Strip L) (at j : ℕ) (a : L) → Loading InRange code bs s₀ s at → LetterRead kind InRange code bs at (Ok (Some a)) j
      → Obeys s (Put a) Done t → Loading InRange code bs s₀ t j
  loading_more bs s₀ s t at j a l r o =
      let word : word_of t ≡ word_of s ++ (a ∷ []) = put_word o.rule in
      let same = l.behind.capacity in
      let rule = subst (λ n. Rule n (word_of s) (Put a) Done (word_of t)) same o.rule in
      let longer : s.len ≤ t.len = omega (arith, ap length word, word_length s, word_length t, length_push (word_of s) a) in
      record {
        part = λ w h e. subst (λ u. Part InRange code bs j u w) (sym word) (part_more bs at j (word_of s) w a (l.part w h e) r).more;
        holds = (keeps_capacity rule l.holds.0, keeps_kinds rule l.holds.1);
        behind = record {
          rest = o.rest ∙ further s.len t.len (memory_of s) (memory_of s₀) longer l.behind.rest;
          capacity = o.capacity ∙ same;
          lender = o.lender ∙ l.behind.lender;
        };
      }

  -- or it was refused.
  refused_as : (capacity : ℕ) (w u : List L) (a : L) (rest v : List L) (answer : Answer L) (f : StripFault) → w ≡ u ++ (a ∷ rest) → Holds capacity u
      → Rule capacity u (Put a) answer v → answer ≡ put_answer (Err f) → Overfull capacity w v f
  refused_as capacity w u a rest v answer (Full p) split holds (full over) e =
      let is : length v ≡ p = cc in subst (λ n. Overfull capacity w v (Full n)) is (too_long a rest split holds over)
  refused_as capacity w u a rest v answer (TooManyKinds p) split holds (crowded room not) e =
      let is : length v ≡ p = cc in subst (λ n. Overfull capacity w v (TooManyKinds n)) is (too_many a rest split holds room not)
  refused_as capacity w u a rest v answer (TooManyKinds p) split holds (full over) e = absurd (let z : ◌≡◌ {A = ℕ} 31 32 = cc in omega arith)
  refused_as capacity w u a rest v answer (Full p) split holds (crowded room not) e = absurd (let z : ◌≡◌ {A = ℕ} 32 31 = cc in omega arith)
  refused_as capacity w u a rest v answer Empty split holds (full over) e = absurd (let z : ◌≡◌ {A = ℕ} 31 33 = cc in omega arith)
  refused_as capacity w u a rest v answer Empty split holds (crowded room not) e = absurd (let z : ◌≡◌ {A = ℕ} 32 33 = cc in omega arith)
  refused_as capacity w u a rest v answer (Full p) split holds (added room admitted) e = absurd (let z : ◌≡◌ {A = ℕ} 0 1 = cc in omega arith)
  refused_as capacity w u a rest v answer (TooManyKinds p) split holds (added room admitted) e = absurd (let z : ◌≡◌ {A = ℕ} 0 1 = cc in omega arith)
  refused_as capacity w u a rest v answer Empty split holds (added room admitted) e = absurd (let z : ◌≡◌ {A = ℕ} 0 1 = cc in omega arith)

  -- From the strip as it was before it was cleared.
  cleared_behind : (s s₀ t : Strip L) → Obeys s Clear Done s₀ → Behind s₀ t → Behind s t
  cleared_behind s s₀ t o b =
      record { rest = b.rest ∙ ap (drop t.len) (clear_memory s s₀ o); capacity = b.capacity ∙ o.capacity; lender = b.lender ∙ o.lender }

  pub loaded_end : (bs : List ℕ) (s s₀ t : Strip L) (at j : ℕ) → Obeys s Clear Done s₀ → Loading InRange code bs s₀ t at → LetterRead kind InRange code bs at (Ok None) j
      → (w : List L) → AllByRecursion InRange w → bs ≡ encode_codes (map code w) → Loaded s w (Ok tt) t
  loaded_end bs s s₀ t at j o l r w h e =
      let all = part_end bs at j (word_of t) w (l.part w h e) r in
      (all, subst (λ n. Holds n w) o.capacity (subst (Holds (capacity_of s₀)) all l.holds), cleared_behind s s₀ t o l.behind)

  pub loaded_refused : (bs : List ℕ) (s s₀ t t' : Strip L) (at j : ℕ) (a : L) (f : StripFault) → Obeys s Clear Done s₀
      → Loading InRange code bs s₀ t at → LetterRead kind InRange code bs at (Ok (Some a)) j → Obeys t (Put a) (put_answer (Err f)) t'
      → (w : List L) → AllByRecursion InRange w → bs ≡ encode_codes (map code w) → Loaded s w (Err f) t'
  loaded_refused bs s s₀ t t' at j a f o l r put w h e =
      let more = part_more bs at j (word_of t) w a (l.part w h e) r in
      let same = l.behind.capacity ∙ o.capacity in
      let word = refused_word put.rule in
      let shorter : t.len ≤ t'.len = omega (arith, ap length word, word_length t, word_length t') in
      let behind : Behind s₀ t' = record {
        rest = put.rest ∙ further t.len t'.len (memory_of t) (memory_of s₀) shorter l.behind.rest;
        capacity = put.capacity ∙ l.behind.capacity;
        lender = put.lender ∙ l.behind.lender;
      } in (
        refused_as (capacity_of s) w (word_of t) a more.rest (word_of t') (put_answer (Err f)) f more.split (subst (λ n. Holds n (word_of t)) o.capacity l.holds)
            (subst (λ n. Rule n (word_of t) (Put a) (put_answer (Err f)) (word_of t')) same put.rule) refl,
        cleared_behind s s₀ t' o behind,
      )

-- What was read, of equal bytes and with an equal answer.
pub same_read : {L : Type 0} {kind : Kind} {InRange : L → Type 0} {code : L → ℕ} {bs bs' : List ℕ} {at j : ℕ} {r : Result (Option L) FileFault} {n n' : Option L}
    → bs ≡ bs' → r ≡ Ok n → n ≡ n' → LetterRead kind InRange code bs at r j → LetterRead kind InRange code bs' at (Ok n') j
same_read {kind = kind} {InRange = InRange} {code = code} {bs = bs} {at = at} {j = j} {n' = n'} e f g r =
    subst (λ b. LetterRead kind InRange code b at (Ok n') j) e (subst (λ x. LetterRead kind InRange code bs at x j) (f ∙ ap Ok g) r)
