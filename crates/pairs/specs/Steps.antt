-- One step of a run: the next plate is read and told apart from the one before.
use Rattle.std.specs.Prelude.{◌≡◌, ℕ, Bool, true, false, List, [], ◌∷◌, ◌++◌, Some, None, Ok, Err, Option, Result}
use Rattle.std.specs.List.{AllByRecursion}
use Rattle.letters.specs.declared.kind.Kind.{Kind}
use Rattle.letters.specs.Kinds.{kind_number}
use Rattle.strips.specs.declared.strip.Strip.{Strip}
use Rattle.strips.specs.Strips.{word_of, capacity_of}
use Rattle.files.specs.declared.reader.Reader.{Reader}
use Rattle.files.specs.Numbers.{Reads}
use Rattle.pairs.specs.declared.fault.RunFault.{RunFault}
use Rattle.pairs.specs.declared.fault.RunFault.TheVariants.{FileTooLong, File, Record, Question, Write}
use Rattle.pairs.specs.declared.memory.Memory.{Memory}
use Rattle.pairs.specs.declared.stepping.NextLine.{NextLine}
use Rattle.pairs.specs.declared.stop.Stop.{Stop}
use Rattle.pairs.specs.declared.stop.Stop.TheVariants.{Refused, Unprinted}
use Rattle.pairs.specs.Plates.{Plate, Given, Holds, Loaded, PlateAnswer}
use Rattle.pairs.specs.Compared.{ComparedIn}
use Rattle.pairs.specs.Runs.{Line, Ends, BeganOf, RunOf, Began, Printed, Took, fault_line}

module _ {L : Type 0} (lt : L → L → Type 0) (kind : Kind) (InRange : L → Type 0) (code : L → ℕ) where
  -- What a step from the reader a answers, with the plate p before it, the strip s for the next plate and the memory m; and the
  -- reader b, the strip t and the memory after it. None is answered where no plate is given (`PlateAnswer`), and a refusal there
  -- leaves the memory as it was. Otherwise the plate that was given is on the strip, and its line is written or refused
  -- (`ComparedIn`).
  abbrev pub StepAnswer : Reader → Plate L → Strip L → Memory L → Result (Option NextLine) RunFault → Reader → Strip L → Memory L → Type 0
  StepAnswer a p s m (Ok None) b t m' = PlateAnswer kind InRange code a s (Ok None) b t × (m' ≡ m)
  StepAnswer a p s m (Ok (Some next)) b t m' =
      (w : List L) × Given kind InRange code a (record { number = next.plate; word = w }) b × Loaded s w (Ok tt) t
      × ComparedIn lt code p (record { number = next.plate; word = w }) m (Ok next.length) m'
  StepAnswer a p s m (Err (File fault)) b t m' = PlateAnswer kind InRange code a s (Err (File fault)) b t × (m' ≡ m)
  StepAnswer a p s m (Err (Record fault place)) b t m' = PlateAnswer kind InRange code a s (Err (Record fault place)) b t × (m' ≡ m)
  StepAnswer a p s m (Err (Question fault)) b t m' =
      (q : Plate L) × Given kind InRange code a q b × Loaded s q.word (Ok tt) t × ComparedIn lt code p q m (Err (Question fault)) m'
  StepAnswer a p s m (Err (Write fault)) b t m' =
      (q : Plate L) × Given kind InRange code a q b × Loaded s q.word (Ok tt) t × ComparedIn lt code p q m (Err (Write fault)) m'
  StepAnswer a p s m (Err FileTooLong) b t m' = ⊥

-- A reader of the kind stands before the first record.
pub record Fresh (kind : Kind) (a : Reader) : Type 0 where
  pub same_kind : a.kind ≡ kind
  pub first : a.last ≡ 0
  pub behind : Reads a.bytes.now 0 (kind_number kind) a.at

-- A run stands at a plate: the reader is of the letters' kind, the plate's word is on a strip of 400 letters, and the strip
-- for the next plate is as large.
pub record Standing {L : Type 0} (kind : Kind) (InRange : L → Type 0) (a : Reader) (earlier later : Strip L) : Type 0 where
  pub same_kind : a.kind ≡ kind
  pub earlier_size : capacity_of earlier ≡ 400
  pub later_size : capacity_of later ≡ 400
  pub letters : AllByRecursion InRange (word_of earlier)

module _ {S : Type 0} (took : S → List ℕ → Bool → S → Type 0) where
  -- What printing lines to a sink answers, where `first` tells the first lines of a run and `all` tells all of them: the sink took
  -- all lines; or all but the last, which is that of a refusal and was not given to it; or the first ones, and then it refused
  -- the next.
  abbrev pub LinesAnswer : (List (List ℕ) → Type 0) → (List (List ℕ) → Type 0) → S → Result (Unit {0}) Stop → S → Type 0
  LinesAnswer first all from (Ok done) to = (ls : List (List ℕ)) × all ls × Took took from ls to
  LinesAnswer first all from (Err (Refused fault)) to = (ls : List (List ℕ)) × first ls × all (ls ++ (fault_line fault ∷ [])) × Took took from ls to
  LinesAnswer first all from (Err (Unprinted error)) to =
      (ls : List (List ℕ)) × (m : S) × (l : List ℕ) × first ls × Took took from ls m × first (ls ++ (l ∷ [])) × took m l false to

  -- What printing the plates of a file answers, of whichever kind.
  abbrev pub FileAnswer : List ℕ → S → Result (Unit {0}) Stop → S → Type 0
  FileAnswer bs = LinesAnswer (Began bs) (Printed bs)

module _ {L S : Type 0} (lt : L → L → Type 0) (kind : Kind) (InRange : L → Type 0) (code : L → ℕ) (took : S → List ℕ → Bool → S → Type 0) where
  -- What a step of a run with a sink answers: the plate that was read, whose line was taken; none at the end of the file; the
  -- refusal that ends the run; or an error where the sink refused the line.
  abbrev pub Advanced : Reader → Plate L → Strip L → S → Result (Option ℕ) Stop → Reader → Strip L → S → Type 0
  Advanced a p s from (Ok (Some number)) b t to =
      (w : List L) × Given kind InRange code a (record { number = number; word = w }) b × Loaded s w (Ok tt) t
      × (l : List ℕ) × Line lt kind InRange code p (record { number = number; word = w }) l × took from l true to
  Advanced a p s from (Ok None) b t to = Ends lt kind InRange code a.bytes.now a.last a.at [] × (to ≡ from)
  Advanced a p s from (Err (Refused fault)) b t to = Ends lt kind InRange code a.bytes.now a.last a.at (fault_line fault ∷ []) × (to ≡ from)
  Advanced a p s from (Err (Unprinted error)) b t to =
      (q : Plate L) × Given kind InRange code a q b × Holds 400 q.word × (l : List ℕ) × Line lt kind InRange code p q l × took from l false to

  -- What a run over the records of a file answers.
  abbrev pub PlatesAnswer : List ℕ → S → Result (Unit {0}) Stop → S → Type 0
  PlatesAnswer bs = LinesAnswer took (BeganOf lt kind InRange code bs) (RunOf lt kind InRange code bs)
