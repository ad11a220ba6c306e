-- The bytes that a text shows as hexadecimal digits.
use Rattle.std.specs.Prelude.{ℕ, ◌+◌, ◌*◌, nat_lt, if◌then◌else◌, List, [], ◌∷◌, Bool, not}
use Rattle.std.specs.Char.{digit_value, is_ascii_uppercase}

-- The values of the hexadecimal digits among the characters, in order, of either case; the other characters are passed over.
abbrev pub digits_of : List ℕ → List ℕ
digits_of [] = []
digits_of (c ∷ text) = if nat_lt (digit_value c) 16 then digit_value c ∷ digits_of text else digits_of text

-- The bytes of digits, two to a byte, the high one first; a last digit with none behind it is of no byte.
abbrev pub paired : List ℕ → List ℕ
paired [] = []
paired (high ∷ []) = []
paired (high ∷ low ∷ digits) = (high * 16 + low) ∷ paired digits

-- The bytes that the digits of the text stand for.
abbrev pub bytes_of : List ℕ → List ℕ
bytes_of text = paired (digits_of text)

-- The characters but for the capital letters.
abbrev pub is_no_capital : ℕ → Bool
is_no_capital c = not (is_ascii_uppercase c)
