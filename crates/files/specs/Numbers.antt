-- Numbers as bytes, and what reading one answers.
use Rattle.std.specs.Prelude.{◌≡◌, ℕ, ◌+◌, ◌/◌, ◌%◌, ◌^◌, ◌<◌, List, [], ◌∷◌, ◌++◌, map, length, take, drop, Ok, Err, Result}
use Rattle.std.specs.Int.Digits.{digits_of}
use Rattle.files.specs.declared.number.Number.{Number}
use Rattle.files.specs.declared.number.NumberFault.{NumberFault}
use Rattle.files.specs.declared.number.NumberFault.TheVariants.{Missing, Padded, TooLong}

-- The groups of seven bits of n, high group first and none for 0, each as a byte with its top bit set. These are the
-- bytes that a number has before its last one.
abbrev pub marked : ℕ → List ℕ
marked n = map (λ g. 128 + g) (digits_of 128 n)

-- The bytes of a number, in the shortest form: the last group is a byte with a clear top bit.
abbrev pub encode : ℕ → List ℕ
encode n = marked (n / 128) ++ (n % 128 ∷ [])

-- From place i on, the bytes begin with s, which ends before place j.
abbrev pub Stands : List ℕ → ℕ → List ℕ → ℕ → Type 0
Stands bs i s j = (drop i bs ≡ s ++ drop j bs) × (j ≡ i + length s)

-- At place i stands the number n, of at most four groups; place j is the next.
abbrev pub Reads : List ℕ → ℕ → ℕ → ℕ → Type 0
Reads bs i n j = (n < 2 ^ 28) × Stands bs i (encode n) j

-- The number and the place of each fault.
abbrev pub number_fault : NumberFault → ℕ × ℕ
number_fault (Missing place) = (11, place)
number_fault (Padded place) = (12, place)
number_fault (TooLong place) = (13, place)

-- What reading a number at place i answers: the number that stands there, or
-- 11, where the bytes end before a number or after up to three of its bytes, at their end (or at i, if that lies behind);
-- 12, where the first byte is 80h (an empty group that the shortest form leaves out), at that byte;
-- 13, where four bytes with a set top bit stand, at the fourth.
abbrev pub NumberAt : List ℕ → ℕ → Result Number NumberFault → Type 0
NumberAt bs i (Ok x) = Reads bs i x.value x.next
NumberAt bs i (Err (Missing place)) = (n : ℕ) × (drop i bs ≡ marked n) × (length (marked n) < 4) × (place ≡ i + length (marked n))
NumberAt bs i (Err (Padded place)) = (take 1 (drop i bs) ≡ 128 ∷ []) × (place ≡ i)
NumberAt bs i (Err (TooLong place)) = (n : ℕ) × (take 4 (drop i bs) ≡ marked n) × (length (marked n) ≡ 4) × (place ≡ i + 3)

-- Reading at place i answers r: the number that stands there, and where a number stands it is given.
pub record NumberRead (bs : List ℕ) (i : ℕ) (r : Result Number NumberFault) : Type 0 where
  pub answer : NumberAt bs i r
  pub only : (n j : ℕ) → Reads bs i n j → r ≡ Ok (record { value = n; next = j })
