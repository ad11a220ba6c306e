-- What the private functions of the crate promise each other.
use Rattle.std.specs.Prelude.{◌≡◌, ℕ, suc, ◌+◌, ◌<◌, ◌≤◌, min, List, [], ◌∷◌, ◌++◌, reverse, length, Some, slice_index}
use Rattle.std.proofs.Math.Decide.{ℕ_discrete}
use Rattle.std.proofs.Math.Logic.{ite}
use Rattle.std.specs.List.{slice_get, swap}
use Rattle.words.specs.Words.{Sub, Within, Congruent}

-- all numbers of the list are below the bound
abbrev pub Below : ℕ → List ℕ → Type 0
Below bound xs = (i : ℕ) → i < length xs → slice_index xs i < bound

-- ── Letters by number ──

-- The numbers spell the word in the list: each is the place in the list of the letter that stands where it stands.
pub data Spells {A : Type 0} (list : List A) : List ℕ → List A → Type 0 where
  nothing : Spells list [] []
  letter : {n : ℕ} {a : A} {ns : List ℕ} {w : List A} → slice_get list n ≡ Some a → Spells list ns w → Spells list (n ∷ ns) (a ∷ w)

-- the letters of the list rise strictly
abbrev pub Rising : {A : Type 0} → (A → A → Type 0) → List A → Type 0
Rising {A} lt list = (i j : ℕ) (a b : A) → i < j → slice_get list i ≡ Some a → slice_get list j ≡ Some b → lt a b

-- every letter of the word is in the list
abbrev pub Covers : {A : Type 0} → List A → List A → Type 0
Covers {A} list w = (a : A) → Sub (a ∷ []) w → Sub (a ∷ []) list

-- The places list the different letters of the word, in their order.
pub record Listed {A : Type 0} (lt : A → A → Type 0) (w : List A) (places : List ℕ) : Type 0 where
  pub letters : List A
  pub spelled : Spells w places letters
  pub rising : Rising lt letters
  pub covers : Covers letters w

-- The places list letters of the two words together, in their order, and the ranks spell each of the words in that list.
pub record Numbered {A : Type 0} (lt : A → A → Type 0) (u v : List A) (places us vs : List ℕ) : Type 0 where
  pub letters : List A
  pub spelled : Spells (u ++ v) places letters
  pub rising : Rising lt letters
  pub first : Spells letters us u
  pub second : Spells letters vs v

-- ── The coordinates of a place ──

module _ {A : Type 0} (eq : (x y : A) → Dec (x ≡ y)) where
  -- The right coordinate of the letter `a` in front of a word: the length of a shortest word `a ∷ y` that `a ∷ q` has as a
  -- subsequence and `q` has not.
  unfoldable pub right : A → List A → ℕ
  right a [] = 1
  right a (c ∷ q) = ite (eq a c) (suc (right a q)) (min (right a q) (suc (right c q)))

  -- the left coordinate of the letter `a` behind a word, its mirror image
  unfoldable pub left : List A → A → ℕ
  left p a = right a (reverse p)

  -- the right coordinates of all places
  abbrev pub rights : List A → List ℕ
  rights [] = []
  rights (a ∷ w) = right a w ∷ rights w

  -- the left coordinates of the places of `w` behind the front `p`
  abbrev pub lefts : List A → List A → List ℕ
  lefts p [] = []
  lefts p (a ∷ w) = left p a ∷ lefts (p ++ a ∷ []) w

-- the vector holds, for each rank, its right coordinate in front of `q`
abbrev pub Ahead : List ℕ → List ℕ → Type 0
Ahead vector q = (x : ℕ) → x < length vector → slice_index vector x ≡ right ℕ_discrete x q

-- ── The letters that are kept ──

-- the numbers rise strictly, from `i` on
pub data Climbs : ℕ → List ℕ → Type 0 where
  top : {i : ℕ} → Climbs i []
  step : {i n : ℕ} {ns : List ℕ} → i ≤ n → Climbs (suc n) ns → Climbs i (n ∷ ns)

-- no letter can be dropped without losing a subsequence of at most `k` letters
abbrev pub NoneToDrop : {A : Type 0} → ℕ → List A → Type 0
NoneToDrop {A} k w = (p : List A) (a : A) (q : List A) → w ≡ p ++ a ∷ q → ¬ Within k (p ++ a ∷ q) (p ++ q)

-- Of the word of ranks `w`, the letters at these places were kept: their ranks, and the right coordinates that they have
-- now.
pub record Kept (k : ℕ) (w places ranks behind : List ℕ) : Type 0 where
  pub climbing : Climbs 0 places
  pub spelled : Spells w places ranks
  pub congruent : Congruent k w ranks
  pub lean : NoneToDrop k ranks
  pub coordinates : behind ≡ rights ℕ_discrete ranks

-- What is left of a word of letters: a list of letters in their order, in which numbers spell the word; and what was kept of
-- these numbers, with its left and its right coordinates.
pub record Thinned {A : Type 0} (lt : A → A → Type 0) (k : ℕ) (word : List A) (places ranks before behind : List ℕ)
    : Type 0 where
  pub letters : List A
  pub numbers : List ℕ
  pub rising : Rising lt letters
  pub spelled : Spells letters numbers word
  pub lean : Kept k numbers places ranks behind
  pub coordinates : before ≡ lefts ℕ_discrete [] ranks

-- ── Exchanges ──

-- the lists of the left and of the right coordinates have the same at the places `i` and `i + 1`, of the sum `k + 1`
abbrev pub Level : ℕ → List ℕ → List ℕ → ℕ → Type 0
Level k L R i = (slice_index L i ≡ slice_index L (suc i)) × (slice_index R i ≡ slice_index R (suc i)) × (slice_index L i + slice_index R i ≡ suc k)

-- the second word comes from the first by exchanges of neighbours at places where `P` holds
pub data Exchanged {A : Type 0} (P : ℕ → Type 0) (u : List A) : List A → Type 0 where
  none : Exchanged P u u
  more : {w : List A} (i : ℕ) → P i → suc i < length w → Exchanged P u w → Exchanged P u (swap w i (suc i))

-- Numbers and letters were reordered together, by exchanges of numbers where `P` holds.
pub record Reordered {A : Type 0} (P : ℕ → Type 0) (ns : List ℕ) (w : List A) (ns' : List ℕ) (w' : List A) : Type 0 where
  pub exchanged : Exchanged P ns ns'
  pub together : (list : List A) → Spells list ns w → Spells list ns' w'

-- the first `n` numbers are in order where `P` holds
abbrev pub InOrder : (ℕ → Type 0) → ℕ → List ℕ → Type 0
InOrder P n ns = (i : ℕ) → suc i < n → P i → slice_index ns i ≤ slice_index ns (suc i)
