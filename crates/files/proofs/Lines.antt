-- What the loops of a listing keep true: the text so far is what was read so far.
use Rattle.std.proofs.Common.{◌≡◌, ℕ, ◌+◌, ◌^◌, ◌<◌, List, [], ◌∷◌, ◌++◌, length, drop, Err, codes, decimal, sym, ap, ◌∙◌, append_assoc, append-nil, arith, length-drop}
use Rattle.std.proofs.lemmas.List.{flat_map_more}
use Rattle.std.specs.List.{AllByRecursion}
use Rattle.files.specs.declared.number.NumberFault.{NumberFault}
use Rattle.letters.specs.declared.kind.Kind.{Kind}
use Rattle.letters.specs.Kinds.{IsCode}
use Rattle.files.specs.declared.reader.Record.{Record}
use Rattle.files.specs.Listing.{codes_text, entry_line}
use Rattle.files.specs.Numbers.{encode, Reads, NumberAt}
use Rattle.files.specs.Records.{Entry, Allowed, Shows, encode_codes}
use Rattle.files.proofs.Encoding.{encode_unique}
use Rattle.files.proofs.OneReading.{front_stands, reads_inside, reads_no_fault, code_number}

-- The word cs was shown up to some place: `left` are the codes that are still to come.
abbrev pub Split : List ℕ → ℕ → List ℕ → List ℕ → List ℕ → Type 0
Split bs at old text cs =
    (shown : List ℕ) × (left : List ℕ) × (cs ≡ shown ++ left) × AllByRecursion (λ n. n < 2 ^ 28) left × (drop at bs ≡ encode_codes left) × (text ≡ old ++ codes_text shown)

-- Whatever word the bytes are of, its codes before the place were shown.
pub record Shown (bs : List ℕ) (at : ℕ) (old text : List ℕ) : Type 0 where
  pub split : (cs : List ℕ) → AllByRecursion (λ n. n < 2 ^ 28) cs → bs ≡ encode_codes cs → Split bs at old text cs

-- One code more was shown.
pub shown_more : (bs old text text' : List ℕ) (at n next : ℕ) → Shown bs at old text → Reads bs at n next
    → text' ≡ text ++ (codes " " ++ decimal n) → Shown bs next old text'
shown_more bs old text text' at n next s (small, (p, q)) e = record { split = λ cs few whole. step cs (s.split cs few whole) }
  where
    step : (cs : List ℕ) → Split bs at old text cs → Split bs next old text' cs
    step cs (shown, [], whole, few, here, said) = absurd (reads_inside bs at n next (small, (p, q)) (omega (arith, ap length here, length-drop at bs)))
    step cs (shown, c ∷ left, whole, few, here, said) =
        let (is, rest) = encode_unique n c (drop next bs) (encode_codes left) (sym p ∙ here) in (
          shown ++ (c ∷ []),
          left,
          whole ∙ sym (append_assoc shown (c ∷ []) left),
          few.1,
          rest,
          e ∙ ap (λ x. x ++ (codes " " ++ decimal n)) said ∙ ap (λ m. (old ++ codes_text shown) ++ (codes " " ++ decimal m)) is
              ∙ flat_map_more (λ c. codes " " ++ decimal c) old shown c,
        )

-- Where no number stands, all of the word was shown: a word's bytes have one at each of its codes.
pub shown_all : (bs old text : List ℕ) (at : ℕ) (f : NumberFault) → Shown bs at old text → NumberAt bs at (Err f)
    → (cs : List ℕ) → AllByRecursion (λ n. n < 2 ^ 28) cs → bs ≡ encode_codes cs → text ≡ old ++ codes_text cs
shown_all bs old text at f s fault cs few whole = go (s.split cs few whole)
  where
    go : Split bs at old text cs → text ≡ old ++ codes_text cs
    go (shown, [], whole, few, here, said) = said ∙ ap (λ x. old ++ codes_text x) (sym (whole ∙ append-nil shown))
    go (shown, c ∷ left, whole, few, here, said) =
        absurd (reads_no_fault bs at c (at + length (encode c)) f (few.0, (front_stands bs (encode c) (encode_codes left) at here).1) fault)

-- Texts that are added one after the other.
added : (old a b c : List ℕ) {one two three : List ℕ} → one ≡ old ++ a → two ≡ one ++ b → three ≡ two ++ c → three ≡ old ++ (a ++ (b ++ c))
added old a b c p q r = r ∙ ap (λ x. x ++ c) (q ∙ ap (λ x. x ++ b) p) ∙ append_assoc (old ++ a) b c ∙ append_assoc old a (b ++ c)

-- Codes are numbers.
pub codes_small : (k : Kind) (cs : List ℕ) → AllByRecursion (IsCode k) cs → AllByRecursion (λ n. n < 2 ^ 28) cs
codes_small k [] h = tt
codes_small k (c ∷ cs) (h, hs) = (code_number k c h, codes_small k cs hs)

-- A record's line is its plate, its codes and the line's end.
pub line_text_lem : (k : Kind) (last place : ℕ) (e : Entry) (r : Record) (old one two three : List ℕ) → Allowed k last e → Shows e place r
    → one ≡ old ++ (decimal r.plate ++ codes ":")
    → ((cs : List ℕ) → AllByRecursion (λ n. n < 2 ^ 28) cs → r.codes.now ≡ encode_codes cs → two ≡ one ++ codes_text cs)
    → three ≡ two ++ codes "\n" → three ≡ old ++ entry_line e
line_text_lem k last place e r old one two three allowed (plate, count, at, bytes) p q s =
    added old (decimal r.plate ++ codes ":") (codes_text e.codes) (codes "\n") p (q e.codes (codes_small k e.codes allowed.coded) bytes) s
    ∙ ap (λ x. old ++ x) (append_assoc (decimal r.plate) (codes ":") (codes_text e.codes ++ codes "\n"))
    ∙ ap (λ n. old ++ (decimal n ++ (codes ":" ++ (codes_text e.codes ++ codes "\n")))) plate
