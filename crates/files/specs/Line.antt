-- The line that tells two plates apart, as bytes; and what writing into lent bytes answers.
use Rattle.std.specs.Prelude.{◌≡◌, ℕ, ◌<◌, ◌≤◌, List, [], ◌∷◌, ◌++◌, length, drop, Ok, Err, codes, decimal, Result}
use Rattle.std.specs.List.{flat_map}
use Rattle.words.specs.declared.told.Side.{Side}
use Rattle.words.specs.declared.told.Side.TheVariants.{Left, Right}
use Rattle.files.specs.declared.line.WriteFault.{WriteFault}
use Rattle.files.specs.declared.line.WriteFault.TheVariants.{NoRoom}

-- The number and the place of a refusal to write.
abbrev pub write_fault : WriteFault → ℕ × ℕ
write_fault (NoRoom place) = (51, place)

-- Which of the two plates shows the row, with a space before and behind.
abbrev pub text_of_side : Side → List ℕ
text_of_side Left = codes " L "
text_of_side Right = codes " R "

-- Codes, a comma before each.
abbrev pub comma_text : List ℕ → List ℕ
comma_text cs = flat_map (λ c. codes "," ++ decimal c) cs

-- What follows the two plates: the degree, which is the row's length less 1, the side, and the codes of the row joined by
-- commas; or that no row tells the plates apart.
abbrev pub row_text : Side → List ℕ → List ℕ
row_text side [] = codes " = - -\n"
row_text side (c ∷ cs) =
    codes " " ++ (decimal (length cs) ++ (text_of_side side ++ (decimal c ++ (comma_text cs ++ codes "\n"))))

-- The line: both plates and the row.
abbrev pub line_text : ℕ → ℕ → Side → List ℕ → List ℕ
line_text first second side row = decimal first ++ (codes " " ++ (decimal second ++ row_text side row))

-- The line of a refusal: its number and its place.
abbrev pub refusal_text : ℕ → ℕ → List ℕ
refusal_text number place = codes "fault " ++ (decimal number ++ (codes " at " ++ (decimal place ++ codes "\n")))

-- The bytes stand first in what was lent, with nothing behind them changed, and their count is answered; or they do not fit,
-- and nothing is changed.
abbrev pub Wrote : List ℕ → List ℕ → Result ℕ WriteFault → List ℕ → Type 0
Wrote old text (Ok n) new = (n ≡ length text) × (n ≤ length old) × (new ≡ text ++ drop n old)
Wrote old text (Err (NoRoom place)) new = (length old < length text) × (place ≡ 0) × (new ≡ old)
