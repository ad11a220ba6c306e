-- How long the lines of a run are: with strips of 400 letters, 4,096 bytes suffice.
use Rattle.std.proofs.Common.{◌≡◌, ℕ, ◌*◌, ◌^◌, ◌<◌, ◌≤◌, List, [], ◌∷◌, ◌++◌, map, length, Err, codes, decimal, refl, arith, length-append}
use Rattle.std.proofs.lemmas.Fmt.{length-decimal-le}
use Rattle.std.specs.List.{AllByRecursion}
use Rattle.words.specs.declared.told.Side.{Side}
use Rattle.words.specs.declared.told.Side.TheVariants.{Left, Right}
use Rattle.words.specs.Words.{Sub, done, skip, keep}
use Rattle.words.specs.Separating.{TellsOn}
use Rattle.files.specs.declared.line.WriteFault.{WriteFault}
use Rattle.files.specs.declared.line.WriteFault.TheVariants.{NoRoom}
use Rattle.files.specs.Line.{text_of_side, comma_text, row_text, line_text, refusal_text, Wrote}

-- Numbers in decimal.
plate_short : (n : ℕ) → n < 2 ^ 32 → length (decimal n) ≤ 10
plate_short n h = length-decimal-le 10 n (omega arith) (omega (arith, h)) (omega (arith, h))

code_short : (n : ℕ) → n ≤ 268435455 → length (decimal n) ≤ 9
code_short n h = length-decimal-le 9 n (omega arith) (omega (arith, h)) (omega (arith, h))

degree_short : (n : ℕ) → n ≤ 400 → length (decimal n) ≤ 3
degree_short n h = length-decimal-le 3 n (omega arith) (omega (arith, h)) (omega (arith, h))

word_short : (n : ℕ) → n < 2 ^ 64 → length (decimal n) ≤ 20
word_short n h = length-decimal-le 20 n (omega arith) (omega (arith, h)) h

-- The line of a refusal,
pub refusal_short : (number place : ℕ) → number < 2 ^ 64 → place < 2 ^ 64 → length (refusal_text number place) ≤ 51
refusal_short number place p q =
    omega (
      arith,
      length-append (decimal number) (codes " at " ++ (decimal place ++ codes "\n")),
      length-append (decimal place) (codes "\n"),
      word_short number p,
      word_short place q,
    )

side_length : (side : Side) → length (text_of_side side) ≡ 3
side_length Left = refl
side_length Right = refl

commas_short : (cs : List ℕ) → AllByRecursion (λ c. c ≤ 268435455) cs → length (comma_text cs) ≤ 10 * length cs
commas_short [] h = omega arith
commas_short (c ∷ cs) (h, hs) =
    omega (arith, length-append (codes "," ++ decimal c) (comma_text cs), code_short c h, commas_short cs hs)

row_short : (side : Side) (cs : List ℕ) → length cs ≤ 401 → AllByRecursion (λ c. c ≤ 268435455) cs → length (row_text side cs) ≤ 4070
row_short side [] few h = omega arith
row_short side (c ∷ cs) few (h, hs) =
    omega (
      arith,
      length-append (decimal (length cs)) (text_of_side side ++ (decimal c ++ (comma_text cs ++ codes "\n"))),
      length-append (text_of_side side) (decimal c ++ (comma_text cs ++ codes "\n")),
      length-append (decimal c) (comma_text cs ++ codes "\n"),
      length-append (comma_text cs) (codes "\n"),
      side_length side,
      degree_short (length cs) (omega (arith, few)),
      code_short c h,
      commas_short cs hs,
    )

-- and that of two plates.
pub line_short : (first second : ℕ) (side : Side) (cs : List ℕ) → first < 2 ^ 32 → second < 2 ^ 32 → length cs ≤ 401 → AllByRecursion (λ c. c ≤ 268435455) cs
    → length (line_text first second side cs) ≤ 4096
line_short first second side cs p q few h =
    omega (
      arith,
      length-append (decimal first) (codes " " ++ (decimal second ++ row_text side cs)),
      length-append (decimal second) (row_text side cs),
      plate_short first p,
      plate_short second q,
      row_short side cs few h,
    )

module _ {L : Type 0} where
  -- What holds of every letter of a word holds of those of a subsequence,
  sub_all : (P : L → Type 0) {z w : List L} → Sub z w → AllByRecursion P w → AllByRecursion P z
  sub_all P done h = tt
  sub_all P (skip s) (h, hs) = sub_all P s hs
  sub_all P (keep s) (h, hs) = (h, sub_all P s hs)

  -- so of those of a telling row.
  pub row_all : (P : L → Type 0) (z u v : List L) (side : Side) → TellsOn side z u v → AllByRecursion P u → AllByRecursion P v → AllByRecursion P z
  row_all P z u v Left t h k = sub_all P t.0 h
  row_all P z u v Right t h k = sub_all P t.0 k

  pub codes_of : (code : L → ℕ) (InRange : L → Type 0) → ((a : L) → InRange a → code a ≤ 268435455) → (w : List L) → AllByRecursion InRange w → AllByRecursion (λ c. c ≤ 268435455) (map code w)
  codes_of code InRange small [] h = tt
  codes_of code InRange small (a ∷ w) (h, hs) = (small a h, codes_of code InRange small w hs)

-- A short line is not refused.
pub refused_room : (old text new : List ℕ) (f : WriteFault) → Wrote old text (Err f) new → length text ≤ 51 → 4096 ≤ length old → ⊥
refused_room old text new (NoRoom place) (none, is, same) short room = omega (arith, none)
