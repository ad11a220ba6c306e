-- The encoding of numbers can be read in one way only: the bytes of a number are no front part of another's, and a place
-- where reading finds a fault has no number.
use Rattle.std.proofs.Common.{◌≡◌, ℕ, zero, suc, ◌+◌, ◌/◌, ◌%◌, ◌<◌, List, [], ◌∷◌, ◌++◌, map, length, get_or, take, drop, Ok, Err, Result, sym, refl, ap, ◌∙◌, ⊎_elim, append_assoc, arith}
use Rattle.std.proofs.lemmas.Int.Digits.{first_digits_of, length-digits_of-le, same_from_digits_of}
use Rattle.std.proofs.lemmas.Bool.{cases_lt}
use Rattle.std.specs.Int.Digits.{digits_of}
use Rattle.files.specs.declared.number.Number.{Number}
use Rattle.files.specs.declared.number.NumberFault.{NumberFault}
use Rattle.files.specs.declared.number.NumberFault.TheVariants.{Missing, Padded, TooLong}
use Rattle.files.specs.Numbers.{marked, encode, Reads, NumberAt, NumberRead}

-- Groups as bytes with a set top bit.
abbrev mark : List ℕ → List ℕ
mark = map (λ g. 128 + g)

-- Where the bytes with a set top bit end, can be told from the bytes.
same_groups : (cs ds : List ℕ) (g h : ℕ) (xs ys : List ℕ) → g < 128 → h < 128 → mark cs ++ (g ∷ xs) ≡ mark ds ++ (h ∷ ys)
    → (cs ≡ ds) × (g ≡ h) × (xs ≡ ys)
same_groups [] [] g h xs ys p q e = (refl, cc, cc)
same_groups [] (d ∷ ds) g h xs ys p q e = let z : g ≡ 128 + d = cc in absurd (omega arith)
same_groups (c ∷ cs) [] g h xs ys p q e = let z : 128 + c ≡ h = cc in absurd (omega arith)
same_groups (c ∷ cs) (d ∷ ds) g h xs ys p q e =
    let z : 128 + c ≡ 128 + d = cc in
    let s : c ≡ d = omega arith in
    let t : mark cs ++ (g ∷ xs) ≡ mark ds ++ (h ∷ ys) = cc in
    let i = same_groups cs ds g h xs ys p q t in
    (cc, i.1, i.2)

no_last : (cs ds : List ℕ) (g : ℕ) (xs : List ℕ) → g < 128 → mark cs ≡ mark ds ++ (g ∷ xs) → ⊥
no_last [] [] g xs p e = let z : ◌≡◌ {A = ℕ} 0 1 = cc in omega arith
no_last [] (d ∷ ds) g xs p e = let z : ◌≡◌ {A = ℕ} 0 1 = cc in omega arith
no_last (c ∷ cs) [] g xs p e = let z : 128 + c ≡ g = cc in omega arith
no_last (c ∷ cs) (d ∷ ds) g xs p e = let t : mark cs ≡ mark ds ++ (g ∷ xs) = cc in no_last cs ds g xs p t

no_last_in_front : (n : ℕ) (cs ds : List ℕ) (g : ℕ) (xs : List ℕ) → g < 128 → length ds < n → take n (mark ds ++ (g ∷ xs)) ≡ mark cs → ⊥
no_last_in_front zero cs ds g xs p l e = omega arith
no_last_in_front (suc n) [] [] g xs p l e = let z : ◌≡◌ {A = ℕ} 0 1 = cc in omega arith
no_last_in_front (suc n) [] (d ∷ ds) g xs p l e = let z : ◌≡◌ {A = ℕ} 0 1 = cc in omega arith
no_last_in_front (suc n) (c ∷ cs) [] g xs p l e = let z : g ≡ 128 + c = cc in omega arith
no_last_in_front (suc n) (c ∷ cs) (d ∷ ds) g xs p l e =
    let t : take n (mark ds ++ (g ∷ xs)) ≡ mark cs = cc in no_last_in_front n cs ds g xs p (omega arith) t

encode_front : (n : ℕ) (xs : List ℕ) → encode n ++ xs ≡ mark (digits_of 128 (n / 128)) ++ (n % 128 ∷ xs)
encode_front n xs = append_assoc (marked (n / 128)) (n % 128 ∷ []) xs

-- Bytes begin with the encoding of one number at most.
pub encode_unique : (m n : ℕ) (xs ys : List ℕ) → encode m ++ xs ≡ encode n ++ ys → (m ≡ n) × (xs ≡ ys)
encode_unique m n xs ys e =
    let groups = same_groups (digits_of 128 (m / 128)) (digits_of 128 (n / 128)) (m % 128) (n % 128) xs ys (omega arith) (omega arith)
    (sym (encode_front m xs) ∙ e ∙ encode_front n ys) in
    let high = same_from_digits_of 128 (m / 128) (n / 128) (omega arith) groups.0 in
    (omega (arith, groups.1), groups.2)

-- The first byte of a number is never 80h.
first_byte : (n : ℕ) (xs : List ℕ) → take 1 (encode n ++ xs) ≡ 128 ∷ [] → ⊥
first_byte n xs e = go (digits_of 128 (n / 128)) above (ap (take 1) (sym (encode_front n xs)) ∙ e)
  where
    above : 0 < length (digits_of 128 (n / 128)) → 0 < get_or (digits_of 128 (n / 128)) 0 0
    above some =
        ⊎_elim (λ l. first_digits_of 128 (n / 128) (omega arith) l)
        (λ l. let z : n / 128 ≡ 0 = omega arith in absurd (omega (arith, ap (λ m. length (digits_of 128 m)) z))) (cases_lt 0 (n / 128))

    go : (ds : List ℕ) → (0 < length ds → 0 < get_or ds 0 0) → take 1 (mark ds ++ (n % 128 ∷ xs)) ≡ 128 ∷ [] → ⊥
    go [] h e = let z : n % 128 ≡ 128 = cc in omega arith
    go (d ∷ ds) h e = let z : 128 + d ≡ 128 = cc in omega (arith, h (omega arith))

-- A place where a number stands is read as that number.
pub number_only : (bs : List ℕ) (i : ℕ) (r : Result Number NumberFault) → NumberAt bs i r → (n j : ℕ) → Reads bs i n j → r ≡ Ok (record { value = n; next = j })
number_only bs i (Ok x) h n j s =
    let u = encode_unique x.value n _ _ (sym h.1.0 ∙ s.1.0) in
    let v : x.value ≡ n = u.0 in
    let w : x.next ≡ j = omega (arith, h.1.1, s.1.1, ap (λ n. length (encode n)) v) in
    same v w
  where
    same : {v w n j : ℕ} → v ≡ n → w ≡ j → ◌≡◌ {A = Result Number NumberFault} (Ok (record { value = v; next = w })) (Ok (record { value = n; next = j }))
    same p q = cc
number_only bs i (Err (Missing place)) h n j s =
    absurd (no_last (digits_of 128 h.0) (digits_of 128 (n / 128)) (n % 128) (drop j bs) (omega arith) (sym h.1 ∙ s.1.0 ∙ encode_front n (drop j bs)))
number_only bs i (Err (Padded place)) h n j s = absurd (first_byte n (drop j bs) (ap (take 1) (sym s.1.0) ∙ h.0))
number_only bs i (Err (TooLong place)) h n j s =
    let few = length-digits_of-le 128 3 (n / 128) (omega arith) (omega (arith, s.0)) in
    absurd
    (no_last_in_front 4 (digits_of 128 h.0) (digits_of 128 (n / 128)) (n % 128) (drop j bs) (omega arith) (omega arith)
    (ap (take 4) (sym (encode_front n (drop j bs)) ∙ sym s.1.0) ∙ h.1))

pub number_read : (bs : List ℕ) (i : ℕ) (r : Result Number NumberFault) → NumberAt bs i r → NumberRead bs i r
number_read bs i r h = record { answer = h; only = number_only bs i r h }
