-- A step as a part of a run: its line is that of two plates, and a refusal is the end of the run.
use Rattle.std.proofs.Common.{◌≡◌, ℕ, ◌^◌, ◌<◌, ◌≤◌, Bool, true, false, List, [], ◌∷◌, map, length, take, drop, Some, None, Ok, Err, Option, sym, ap, ◌∙◌, subst, inl, inr, arith, length-take}
use lib.ListN.{length-map}
use Rattle.std.proofs.lemmas.List.{take_at}
use Rattle.std.specs.List.{AllByRecursion}
use Rattle.std.specs.declared.io.Error.{Error}
use Rattle.letters.specs.declared.kind.Kind.{Kind}
use Rattle.words.specs.declared.told.Telling.{Telling}
use Rattle.words.specs.declared.told.Side.TheVariants.{Left}
use Rattle.questions.specs.declared.fault.QuestionFault.{QuestionFault}
use Rattle.questions.specs.declared.fault.QuestionFault.TheVariants.{Scratch, Output}
use Rattle.questions.specs.Separate.{Asked}
use Rattle.strips.specs.declared.strip.Strip.{Strip}
use Rattle.strips.specs.Strips.{word_of, capacity_of}
use Rattle.strips.proofs.Calls.{word_length}
use Rattle.files.specs.declared.line.WriteFault.TheVariants.{NoRoom}
use Rattle.files.specs.declared.reader.Reader.{Reader}
use Rattle.pairs.specs.declared.fault.RunFault.{RunFault}
use Rattle.pairs.specs.declared.fault.RunFault.TheVariants.{FileTooLong, File, Record, Question, Write}
use Rattle.pairs.specs.declared.memory.Memory.{Memory}
use Rattle.pairs.specs.declared.stepping.NextLine.{NextLine}
use Rattle.pairs.specs.declared.stop.Stop.TheVariants.{Refused, Unprinted}
use Rattle.pairs.specs.Plates.{Plate, Given, Holds, Overfull, Loaded}
use Rattle.pairs.specs.Memories.{Room}
use Rattle.pairs.specs.Compared.{told_line}
use Rattle.pairs.specs.Runs.{Line, equal, told, Ends, file_ends, record_refused, word_refused, fault_line}
use Rattle.pairs.specs.Steps.{StepAnswer, Standing, Advanced}
use Rattle.pairs.proofs.Lengths.{line_short, row_all, codes_of}

module _ {L : Type 0} (lt : L → L → Type 0) (kind : Kind) (InRange : L → Type 0) (code : L → ℕ) (small : (a : L) → InRange a → code a ≤ 268435455) where
  -- What was asked and answered makes a line of the plates.
  pub asked_line : (p q : Plate L) (row row' : List L) (scratch scratch' : List ℕ) (answer : Option Telling) → Asked lt p.word q.word row scratch (Ok answer) row' scratch'
      → Line lt kind InRange code p q (told_line lt code p q row' answer)
  asked_line p q row row' scratch scratch' None (enough, room, (same, kept)) = equal same
  asked_line p q row row' scratch scratch' (Some t) (enough, room, first) = told t.side (take t.length row') first.first first.side

  -- It is not too long for the memory.
  asked_short : (p q : Plate L) (row row' : List L) (scratch scratch' : List ℕ) (answer : Option Telling) → p.number < 2 ^ 32 → q.number < 2 ^ 32
      → AllByRecursion InRange p.word → AllByRecursion InRange q.word → length p.word ≤ 400
      → Asked lt p.word q.word row scratch (Ok answer) row' scratch' → length (told_line lt code p q row' answer) ≤ 4096
  asked_short p q row row' scratch scratch' None m n g h few (enough, room, (same, kept)) = line_short p.number q.number Left [] m n (omega arith) tt
  asked_short p q row row' scratch scratch' (Some t) m n g h few (enough, room, first) =
      let z = take t.length row' in
      let long = length-take t.length row' in
      line_short p.number q.number t.side (map code z) m n (omega (arith, length-map z code, long, first.few)) (codes_of code InRange small z (row_all InRange z p.word q.word t.side first.side g h))

  module _ (a b : Reader) (p : Plate L) (s t : Strip L) (m m' : Memory L)
      (room : Room m) (same_kind : a.kind ≡ kind) (full : capacity_of s ≡ 400) (ranged : AllByRecursion InRange p.word) (few : length p.word ≤ 400) (number : p.number < 2 ^ 32) where
    -- The line that a step has written.
    pub record Stepped (next : NextLine) : Type 0 where
      pub word : List L
      pub given : Given kind InRange code a (record { number = next.plate; word = word }) b
      pub loaded : Loaded s word (Ok tt) t
      pub text : List ℕ
      pub line_of : Line lt kind InRange code p (record { number = next.plate; word = word }) text
      pub written : take next.length m'.line.now ≡ text

    pub step_line : (next : NextLine) → StepAnswer lt kind InRange code a p s m (Ok (Some next)) b t m' → Stepped next
    step_line next (w, given, loaded, ((answer, asked, (long, inside, line-is)), loans)) =
        let q : Plate L = record { number = next.plate; word = w } in
        let text = told_line lt code p q m'.row.now answer in
        record {
          word = w;
          given = given;
          loaded = loaded;
          text = text;
          line_of = asked_line p q m.row.now m'.row.now m.scratch.now m'.scratch.now answer asked;
          written = ap (take next.length) line-is ∙ take_at text (drop next.length m.line.now) next.length (sym long);
        }

    not_asked : (q : Plate L) (f : QuestionFault) → length q.word ≤ 400 → Asked lt p.word q.word m.row.now m.scratch.now (Err f) m'.row.now m'.scratch.now → ⊥
    not_asked q (Scratch wanted) h (is, less, kept, spare) = omega (arith, is, less, h, few, room.scratch_room)
    not_asked q (Output wanted) h (enough, is, less, kept, spare) = omega (arith, is, less, h, few, room.row_room)

    held : (q : Plate L) → Loaded s q.word (Ok tt) t → length q.word ≤ 400
    held q (word, holds, behind) = omega (arith, holds.0, full)

    -- A refusal ends the run.
    pub step_ends : (f : RunFault) → StepAnswer lt kind InRange code a p s m (Err f) b t m'
        → Ends lt kind InRange code a.bytes.now a.last a.at (fault_line f ∷ [])
    step_ends (File f) ((inl (other, is), kept, on), untouched) = absurd (other same_kind)
    step_ends (File f) ((inr (same, inside, fault), kept, on), untouched) = record_refused f inside fault
    step_ends (Record f place) ((q, given, here, (over, behind)), untouched) =
        subst (λ n. Ends lt kind InRange code a.bytes.now a.last a.at (fault_line (Record f n) ∷ [])) (sym here)
        (word_refused q b.at (word_of t) f given.letters given.allowed given.stands (subst (λ n. Overfull n q.word (word_of t) f) full over))
    step_ends (Question f) (q, given, loaded, ((asked, same), loans)) = absurd (not_asked q f (held q loaded) asked)
    step_ends (Write (NoRoom place)) (q, given, loaded, ((answer, asked, (short, none, same)), loans)) =
        let plate : q.number < 2 ^ 32 = omega (arith, given.allowed.number) in
        absurd
        (omega (arith, short, room.line_room, asked_short p q m.row.now m'.row.now m.scratch.now m'.scratch.now answer number plate ranged given.letters few asked))
    step_ends FileTooLong h = absurd h

    pub step_none : StepAnswer lt kind InRange code a p s m (Ok None) b t m' → Ends lt kind InRange code a.bytes.now a.last a.at []
    step_none ((same, end, kept, on), untouched) = file_ends end

-- The same with the printing.
module _ {L S : Type 0} (lt : L → L → Type 0) (kind : Kind) (InRange : L → Type 0) (code : L → ℕ) (small : (a : L) → InRange a → code a ≤ 268435455)
    (took : S → List ℕ → Bool → S → Type 0) (a b : Reader) (number : ℕ) (earlier s t : Strip L) (m m' : Memory L) (from to : S)
    (room : Room m) (standing : Standing kind InRange a earlier s) (narrow : number < 2 ^ 32) where
  abbrev Plate' : Plate L
  Plate' = record { number = number; word = word_of earlier }

  few : length (word_of earlier) ≤ 400
  few = omega (arith, word_length earlier, earlier.fits, standing.earlier_size)

  line_of : (next : NextLine) → StepAnswer lt kind InRange code a Plate' s m (Ok (Some next)) b t m'
      → Stepped lt kind InRange code small a b Plate' s t m m' room standing.same_kind standing.later_size standing.letters few narrow next
  line_of next = step_line lt kind InRange code small a b Plate' s t m m' room standing.same_kind standing.later_size standing.letters few narrow next

  module _ (next : NextLine) (n : Option NextLine) (n-is : n ≡ Some next) (answer : StepAnswer lt kind InRange code a Plate' s m (Ok n) b t m') where
    here : StepAnswer lt kind InRange code a Plate' s m (Ok (Some next)) b t m'
    here = subst (λ x. StepAnswer lt kind InRange code a Plate' s m (Ok x) b t m') n-is answer

    pub advanced_line : took from (take next.length m'.line.now) true to → Advanced lt kind InRange code took a Plate' s from (Ok (Some next.plate)) b t to
    advanced_line taken =
        let x = line_of next here in
        (x.word, x.given, x.loaded, x.text, x.line_of, subst (λ l. took from l true to) x.written taken)

    pub unprinted_line : (e : Error) → took from (take next.length m'.line.now) false to → Advanced lt kind InRange code took a Plate' s from (Err (Unprinted e)) b t to
    unprinted_line e taken =
        let x = line_of next here in
        (_, x.given, subst (λ c. Holds c x.word) standing.later_size x.loaded.1, x.text, x.line_of, subst (λ l. took from l false to) x.written taken)

  pub advanced_fault : (f : RunFault) → StepAnswer lt kind InRange code a Plate' s m (Err f) b t m' → to ≡ from
      → Advanced lt kind InRange code took a Plate' s from (Err (Refused f)) b t to
  advanced_fault f answer same =
      (step_ends lt kind InRange code small a b Plate' s t m m' room standing.same_kind standing.later_size standing.letters few narrow f answer, same)

  pub advanced_end : (n : Option NextLine) → n ≡ None → StepAnswer lt kind InRange code a Plate' s m (Ok n) b t m' → to ≡ from
      → Advanced lt kind InRange code took a Plate' s from (Ok None) b t to
  advanced_end n is answer same =
      let ((kind-is, end, kept, on), untouched) = subst (λ x. StepAnswer lt kind InRange code a Plate' s m (Ok x) b t m') is answer in
      (file_ends end, same)
