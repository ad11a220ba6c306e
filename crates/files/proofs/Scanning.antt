-- What the loop that reads a number keeps true: the bytes met so far are the marked groups of the value so far.
use Rattle.std.proofs.Common.{◌≡◌, ℕ, ◌+◌, ◌-◌, ◌*◌, ◌/◌, ◌%◌, ◌^◌, ◌<◌, ◌≤◌, ◌⊎◌, List, [], ◌∷◌, ◌++◌, map, length, get_or, take, drop, sym, ap, ◌∙◌, ⊎_elim, append_assoc, pow-suc, add-one, arith, length-drop}
use native.Mathlib.Nat.{pow-le-pow_right}
use Rattle.std.proofs.lemmas.Int.Digits.{digits_of_step}
use Rattle.std.proofs.lemmas.List.{map_push, drop-drop, take-append-drop, take_all, take_at, drop_more, length_push}
use Rattle.std.proofs.lemmas.Bool.{cases_lt}
use Rattle.std.specs.Int.Digits.{digits_of}
use Rattle.files.specs.Numbers.{marked, encode, Reads}

-- One more group at the end of a number that is not 0.
pub marked_step : (v g : ℕ) → g < 128 → 0 < v * 128 + g → marked (v * 128 + g) ≡ marked v ++ ((128 + g) ∷ [])
marked_step v g small some =
    let q : (v * 128 + g) / 128 ≡ v = omega arith in
    let r : (v * 128 + g) % 128 ≡ g = omega arith in
    ap (map (λ g. 128 + g)) (digits_of_step 128 (v * 128 + g) (omega arith) some ∙ rw (q, r))
    ∙ map_push (λ g. 128 + g) (digits_of 128 v) g

pub encode_step : (v g : ℕ) → g < 128 → encode (v * 128 + g) ≡ marked v ++ (g ∷ [])
encode_step v g small =
    let q : (v * 128 + g) / 128 ≡ v = omega arith in
    let r : (v * 128 + g) % 128 ≡ g = omega arith in
    rw (q, r)

-- After `group` groups at `at`: the value that they make.
pub record Scanned (bs : List ℕ) (at group value : ℕ) : Type 0 where
  pub within : 0 < group → at + group ≤ length bs
  pub seen : take group (drop at bs) ≡ marked value
  pub long : length (marked value) ≡ group
  pub small : value < 128 ^ group
  pub some : 0 < group → 0 < value

module _ (bs : List ℕ) (at group value : ℕ) (s : Scanned bs at group value) (few : group < 4) where
  -- Another group fits a number of 32 bits.
  pub scan_fits : value < 2097152
  scan_fits = let h : 128 ^ group ≤ 128 ^ 3 = let one : 0 < 128 = omega arith in let three : group ≤ 3 = omega arith in pow-le-pow_right one three in omega (arith, s.small)

  -- The bytes end here: all that there are were seen.
  pub scan_missing : length bs ≤ at + group → (n : ℕ) × (drop at bs ≡ marked n) × (length (marked n) < 4) × (at + group ≡ at + length (marked n))
  scan_missing end =
      let all : length (drop at bs) ≤ group = simp length-drop (omega arith) in
      (value, sym (take_all group (drop at bs) all) ∙ s.seen, omega (arith, s.long), omega (arith, s.long))

  module _ (b : ℕ) (in_bytes : at + group < length bs) (reads : b ≡ get_or bs (at + group) 0) where
    rest : drop group (drop at bs) ≡ b ∷ drop (at + group + 1) bs
    rest = drop-drop group at bs ∙ drop_more bs (at + group) 0 in_bytes ∙ ap (λ x. x ∷ drop (at + group + 1) bs) (sym reads)

    all : drop at bs ≡ marked value ++ (b ∷ drop (at + group + 1) bs)
    all = sym (take-append-drop group (drop at bs)) ∙ ap (λ x. x ++ drop group (drop at bs)) s.seen ∙ ap (λ x. marked value ++ x) rest

    -- The first byte is 80h.
    pub scan_padded : group ≡ 0 → b ≡ 128 → (take 1 (drop at bs) ≡ 128 ∷ []) × (at + group ≡ at)
    scan_padded none e =
        let h : at ≡ at + group = omega arith in
        (ap (λ p. take 1 (drop p bs)) h ∙ ap (take 1) (drop_more bs (at + group) 0 in_bytes) ∙ ap (λ x. x ∷ []) (sym reads ∙ e), sym h)

    -- A byte with its top bit set is one more group,
    pub scan_more : 128 ≤ b → b < 256 → ((group ≡ 0) × (b ≡ 128 → ⊥)) ⊎ (group ≡ 0 → ⊥) → Scanned bs at (group + 1) (value * 128 + b % 128)
    scan_more top byte fresh =
        let m : 128 + b % 128 ≡ b = omega arith in
        let some' : 0 < value * 128 + b % 128 = ⊎_elim (λ l. omega (arith, s.some l)) (λ z. ⊎_elim (λ l. omega arith) (λ l. absurd (⊎_elim (λ n. n.1 (omega arith)) (λ n. n (omega arith)) fresh)) (cases_lt 128 b)) (cases_lt 0 group) in
        let step = marked_step value (b % 128) (omega arith) some' ∙ ap (λ x. marked value ++ (x ∷ [])) m in
        record {
          within = λ _. omega arith;
          seen = ap (take (group + 1)) (all ∙ sym (append_assoc (marked value) (b ∷ []) (drop (at + group + 1) bs)))
              ∙ take_at (marked value ++ (b ∷ [])) (drop (at + group + 1) bs) (group + 1) (length_push (marked value) b ∙ ap (λ n. n + 1) s.long) ∙ sym step;
          long = ap length step ∙ length_push (marked value) b ∙ ap (λ n. n + 1) s.long;
          small = let p : 128 ^ (group + 1) ≡ 128 ^ group * 128 = rw (add-one, pow-suc) in omega (arith, s.small);
          some = λ _. some';
        }

    -- and any other byte is the number's last.
    pub scan_last : b < 128 → Reads bs at (value * 128 + b % 128) (at + group + 1)
    scan_last low =
        let e : encode (value * 128 + b % 128) ≡ marked value ++ (b ∷ []) = encode_step value (b % 128) (omega arith) ∙ ap (λ x. marked value ++ (x ∷ [])) (omega arith) in (
          omega (arith, scan_fits),
          (all ∙ sym (append_assoc (marked value) (b ∷ []) (drop (at + group + 1) bs)) ∙ ap (λ x. x ++ drop (at + group + 1) bs) (sym e), omega (arith, ap length e, length_push (marked value) b, s.long)),
        )

-- Four groups with the top bit set.
pub scan_long : (bs : List ℕ) (at group value : ℕ) → Scanned bs at group value → group ≡ 4
    → (n : ℕ) × (take 4 (drop at bs) ≡ marked n) × (length (marked n) ≡ 4) × (at + 4 - 1 ≡ at + 3)
scan_long bs at group value s four =
    (value, ap (λ n. take n (drop at bs)) (sym four) ∙ s.seen, s.long ∙ four, omega arith)
