-- What asking for the form of a word answers, for letters of any kind.
use Rattle.std.specs.Prelude.{◌≡◌, ℕ, ◌+◌, ◌*◌, ◌<◌, ◌≤◌, List, length, take, drop, Ok, Err, Result}
use Rattle.words.specs.declared.fault.WordFault.{WordFault}
use Rattle.words.specs.declared.fault.WordFault.TheVariants.{TooLong, Scratch, Output}
use Rattle.words.specs.Words.{IsForm}

-- A word of `n` letters is accepted, with room for so many letters and so many numbers of scratch.
pub record Accepted (n room scratch : ℕ) : Type 0 where
  pub short : n ≤ 4096
  pub enough : 16 * (n + 1) ≤ scratch
  pub fits : n ≤ room

-- Or it is refused: it is too long; if not, the scratch is too small; if not, the output is.
abbrev pub Refused : ℕ → ℕ → ℕ → WordFault → Type 0
Refused n room scratch TooLong = 4096 < n
Refused n room scratch (Scratch wanted) = (n ≤ 4096) × (wanted ≡ 16 * (n + 1)) × (scratch < wanted)
Refused n room scratch (Output wanted) = (n ≤ 4096) × (16 * (n + 1) ≤ scratch) × (wanted ≡ n) × (room < wanted)

-- The form has `f` letters and stands at the start of the output; the rest of the output is as it was.
pub record Formed {A : Type 0} (lt : A → A → Type 0) (k : ℕ) (word out : List A) (f : ℕ) (out' : List A) : Type 0 where
  pub shorter : f ≤ length word
  pub form : IsForm lt k word (take f out')
  pub rest : drop f out' ≡ drop f out

-- What asking for the form of `word` at `k` answers, with what output and scratch hold before and after it. A refusal
-- changes nothing; otherwise the scratch may hold anything. In place, the output is the word's own memory.
abbrev pub FormAnswer : {A : Type 0} → (A → A → Type 0) → ℕ → List A → List A → List ℕ → Result ℕ WordFault
    → List A → List ℕ → Type 0
FormAnswer lt k word out scratch (Ok f) out' scratch' =
    Accepted (length word) (length out) (length scratch) × Formed lt k word out f out'
FormAnswer lt k word out scratch (Err fault) out' scratch' =
    Refused (length word) (length out) (length scratch) fault × (out' ≡ out) × (scratch' ≡ scratch)
