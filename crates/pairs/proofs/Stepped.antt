-- A step whose line was written: the plate that was read is the one that the line is about.
use Rattle.std.proofs.Common.{◌≡◌, ℕ, Some, Ok, Option, subst}
use Rattle.letters.specs.declared.kind.Kind.{Kind}
use Rattle.strips.specs.declared.strip.Strip.{Strip}
use Rattle.strips.specs.Strips.{word_of}
use Rattle.files.specs.declared.reader.Reader.{Reader}
use Rattle.pairs.specs.declared.memory.Memory.{Memory}
use Rattle.pairs.specs.Plates.{Plate, PlateAnswer}
use Rattle.pairs.specs.Compared.{ComparedIn}
use Rattle.pairs.specs.Steps.{StepAnswer}

module _ {L : Type 0} (lt : L → L → Type 0) (kind : Kind) (InRange : L → Type 0) (code : L → ℕ) (a b : Reader) (p : Plate L) (s t : Strip L) (m m' : Memory L)
    (number : ℕ) (read : Option ℕ) where
  pub stepped : (n : ℕ) → read ≡ Some number → PlateAnswer kind InRange code a s (Ok read) b t
      → ComparedIn lt code p (record { number = number; word = word_of t }) m (Ok n) m'
      → StepAnswer lt kind InRange code a p s m (Ok (Some (record { plate = number; length = n }))) b t m'
  stepped n is plate told =
      let (w, given, loaded) = subst (λ r. PlateAnswer kind InRange code a s (Ok r) b t) is plate in
      (w, given, loaded, subst (λ v. ComparedIn lt code p (record { number = number; word = v }) m (Ok n) m') loaded.0 told)
