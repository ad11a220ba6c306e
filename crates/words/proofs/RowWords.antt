-- From ranks back to letters: the first telling row of the ranks, spelled in the list of letters, is that of the words.
use Rattle.std.proofs.Common.{◌≡◌, ℕ, ◌+◌, ◌<◌, ◌≤◌, List, ◌++◌, length, get_or, take, drop, set, Some, sym, refl, ◌∙◌, ⊎_elim, arith}
use Rattle.std.specs.List.{slice_get}
use Rattle.std.proofs.lemmas.List.{length-set, length-take-le, take_more, take_more_set}
use Rattle.words.specs.Steps.{Below, Spells, nothing, Numbered}
use Rattle.words.specs.Words.{Sub, Order, Telling, FirstTelling}
use Rattle.words.specs.Separating.{TellsOn, Separated}
use Rattle.words.specs.declared.told.Side.{Side}
use Rattle.words.specs.declared.told.Side.TheVariants.{Left, Right}
use Rattle.words.specs.declared.told.Telling.{Telling as Telling-of}
use Rattle.words.proofs.Gathering.{rest_step}
use Rattle.words.proofs.Spelling.{spells_length, spells_at, spells_below, spells_push, letters_unique, letters_of}
use Rattle.words.proofs.Spelling.{telling_letters, tells_letters}

module _ {A : Type 0} where
  -- the letters of the first `i` ranks are written; behind them nothing has changed
  pub record Lettered (word : List A) (listed ranks : List ℕ) (old : List A) (i : ℕ) (row : List A) : Type 0 where
    pub long : length row ≡ length old
    pub letters : (list : List A) → Spells word listed list → Spells list (take i ranks) (take i row)
    pub rest : drop i row ≡ drop i old

  pub lettered_none : (word : List A) (listed ranks : List ℕ) (old : List A) → Lettered word listed ranks old 0 old
  lettered_none word listed ranks old = record { long = refl; letters = λ list s. nothing; rest = refl }

  pub lettered_more : (word : List A) (listed ranks : List ℕ) (old : List A) (i : ℕ) (row : List A) (a : A) → i < length ranks
      → i < length old → get_or ranks i 0 < length listed → slice_get word (get_or listed (get_or ranks i 0) 0) ≡ Some a
      → Lettered word listed ranks old i row → Lettered word listed ranks old (i + 1) (set row i a)
  lettered_more word listed ranks old i row a l m b e h = record {
    long = length-set row i a ∙ h.long;
    letters = λ list s.
        rw (take_more ranks i 0 l, take_more_set row i a (omega (arith, h.long)))
        (spells_push (get_or ranks i 0) a (h.letters list s) (sym (spells_at (get_or ranks i 0) s b) ∙ e));
    rest = rest_step old row i a h.rest;
  }

module _ {A : Type 0} {lt : A → A → Type 0} {u v : List A} {places us vs : List ℕ} (h : Numbered lt u v places us vs) where
  -- words of the same ranks are equal
  pub same_words : us ≡ vs → u ≡ v
  same_words e = letters_unique (rw e at h.first) h.second

  pub second_length : length vs ≡ length v
  second_length = spells_length h.second

  -- a telling row of the ranks has only ranks of the alphabet
  pub row_ranks : (ranks : List ℕ) (n : ℕ) → Telling (take n ranks) us vs → Below (length places) (take n ranks)
  row_ranks ranks n t =
      rw (spells_length h.spelled) (⊎_elim (λ s. below s.0 h.first) (λ s. below s.0 h.second) t)
    where
      below : {ws : List ℕ} {w : List A} → Sub (take n ranks) ws → Spells h.letters ws w
          → Below (length h.letters) (take n ranks)
      below s k = let (y, p, q) = letters_of s k in spells_below p

  -- and its letters are the first telling row of the words
  pub separated : (order : Order lt) (t : Telling-of) (ranks : List ℕ) (old row : List A) → length v ≤ length u
      → t.length ≤ length ranks → t.length ≤ length vs + 1 → FirstTelling ◌<◌ (take t.length ranks) us vs
      → TellsOn t.side (take t.length ranks) us vs
      → ((list : List A) → Spells (u ++ v) places list
      → Spells list (take t.length ranks) (take (length (take t.length ranks)) row))
      → drop (length (take t.length ranks)) row ≡ drop (length (take t.length ranks)) old → Separated lt u v old row t
  separated order t ranks old row shorter room few first side letters rest = record {
    few = omega (arith, second_length);
    first = telling_letters h.letters order h.rising spelled h.first h.second first;
    side = on t.side side;
    rest = rw long at rest;
  }
    where
      z : List ℕ
      z = take t.length ranks

      long : length z ≡ t.length
      long = length-take-le t.length ranks room

      spelled : Spells h.letters z (take t.length row)
      spelled = rw long at (letters h.letters h.spelled)

      on : (s : Side) → TellsOn s z us vs → TellsOn s (take t.length row) u v
      on Left q = tells_letters h.letters order h.rising spelled h.first h.second q
      on Right q = tells_letters h.letters order h.rising spelled h.second h.first q
