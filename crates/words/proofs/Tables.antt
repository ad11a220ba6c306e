-- The table of degrees between the end parts of one word: its rows, each made from the one before, and how two of its
-- numbers answer for any stretch of the word.
use Rattle.std.proofs.Common.{◌≡◌, ℕ, suc, ◌+◌, ◌-◌, ◌*◌, ◌%◌, ◌^◌, ◌<◌, ◌≤◌, min, List, ◌++◌, length, get_or, take, drop, sym, refl, ap, ◌∙◌, mul-le-mul_right, add-mul, pow-suc, add-one, arith, length-drop, get_or-take, pow_pos}
use native.Mathlib.Decide.{dec_lt, ℕ_discrete}
use native.Mathlib.Nat.{pow-le-pow_right}
use lib.Seq.{drop-append_seam}
use Rattle.std.proofs.lemmas.List.{drop_all, take-append-le, get_or_past, get_or-drop, get_or_append_left}
use Rattle.std.proofs.lemmas.Grind.{get_or_default_zero}
use Rattle.words.specs.Steps.{rights}
use Rattle.words.specs.Degrees.{Degree}
use Rattle.words.specs.RowSteps.{cap}
use Rattle.words.specs.Stretches.{Row, Rows}
use Rattle.words.proofs.Places.{depth, depth_bound, degree_stretches, degree_place}

-- ── A row from the one before ──

-- the row for twice as many places
pub doubled_row : (t : List ℕ) (size : ℕ) (row next : List ℕ) → length row ≡ length t → Row t size row
    → ((j : ℕ) → j < length row → get_or next j 0 ≡ min (get_or row j 0) (get_or row (j + size) (get_or row j 0)))
    → Row t (size + size) next
doubled_row t size row next e r h = record { at = λ j l. rw (h j (omega (arith, e))) (joined j l (dec_lt (j + size) (length t))) }
  where
    joined : (j : ℕ) → j < length t → Dec (j + size < length t)
        → Degree (cap t) (min (get_or row j 0) (get_or row (j + size) (get_or row j 0))) (drop j t) (drop (j + (size + size)) t)
    joined j l (yes m) =
        let second : Degree (cap t) (get_or row (j + size) (get_or row j 0)) (drop (j + size) t) (drop (j + size + size) t) =
        rw (get_or_default_zero row (j + size) (get_or row j 0) (omega (arith, e))) (r.at (j + size) m) in
        let g : j + size + size ≡ j + (size + size) = omega arith in
        rw g at (degree_stretches ℕ_discrete t (omega arith) (omega arith) (omega arith) (r.at j l) second)
    joined j l (no m) =
        let past : get_or row (j + size) (get_or row j 0) ≡ get_or row j 0 = get_or_past row (j + size) (get_or row j 0) (omega (arith, e)) in
        let same : min (get_or row j 0) (get_or row j 0) ≡ get_or row j 0 = omega arith in
        let f : drop (j + (size + size)) t ≡ drop (j + size) t = drop_all (j + (size + size)) t (omega arith) ∙ sym (drop_all (j + size) t (omega arith)) in
        rw (past, same, f) (r.at j l)

-- ── All rows ──

-- what a row says depends only on its own numbers
pub row_same : (t : List ℕ) (size : ℕ) (old new : List ℕ) → ((j : ℕ) → j < length t → get_or new j 0 ≡ get_or old j 0)
    → Row t size old → Row t size new
row_same t size old new e r = record { at = λ j h. rw (e j h) (r.at j h) }

pub rows_first : (t table : List ℕ) → take (length t) table ≡ rights ℕ_discrete t → Rows t 1 table
rows_first t table e = record { first = e; row = λ k l. row k (omega arith) }
  where
    row : (k : ℕ) → k ≡ 0 → Row t (2 ^ k) (drop (k * length t) table)
    row k z = rw z (record { at = at })
      where
        at : (j : ℕ) → j < length t → Degree (cap t) (get_or (drop (0 * length t) table) j 0) (drop j t) (drop (j + 2 ^ 0) t)
        at j l =
            let here : 0 * length t + j ≡ j = omega arith in
            let one : j + 2 ^ 0 ≡ suc j = rw add-one refl in
            let low : min (depth ℕ_discrete t j) (cap t) ≡ depth ℕ_discrete t j = omega (arith, depth_bound ℕ_discrete t j) in
            let value : get_or (drop (0 * length t) table) j 0 ≡ depth ℕ_discrete t j =
            get_or-drop (0 * length t) table j 0 ∙ ap (λ n. get_or table n 0) here ∙ sym (get_or-take (length t) table j 0 l) ∙ ap (λ xs. get_or xs j 0) e in
            rw (one, value) (rw low at (degree_place ℕ_discrete (cap t) t l))

-- One more row, `next`, behind those that are there, which fill `done`: it comes from the last of them, `row`.
pub rows_more : (t : List ℕ) (level size : ℕ) (done rest row next : List ℕ) → 0 < level → length done ≡ level * length t
    → length next ≡ length t → size ≡ 2 ^ (level - 1) → Rows t level (done ++ rest)
    → row ≡ drop ((level - 1) * length t) done
    → ((j : ℕ) → j < length row → get_or next j 0 ≡ min (get_or row j 0) (get_or row (j + size) (get_or row j 0)))
    → Rows t (level + 1) (done ++ (next ++ drop (length t) rest))
rows_more t level size done rest row next some full long power f from h = record { first = first; row = λ k l. each k (dec_lt k level) l }
  where
    new : List ℕ
    new = done ++ (next ++ drop (length t) rest)

    last : ℕ
    last = (level - 1) * length t

    ends : last + length t ≡ length done
    ends =
        let e : level - 1 + 1 ≡ level = omega arith in
        let m : (level - 1 + 1) * length t ≡ level * length t = ap (λ n. n * length t) e in
        omega (arith, add-mul (level - 1) 1 (length t), m, full)

    first : take (length t) new ≡ rights ℕ_discrete t
    first =
        take-append-le (length t) done (next ++ drop (length t) rest) (omega (arith, ends)) ∙ sym (take-append-le (length t) done rest (omega (arith, ends)))
        ∙ f.first

    -- the rows that were there stand in `done`
    same : (a j : ℕ) (more : List ℕ) → a + j < length done → get_or (drop a (done ++ more)) j 0 ≡ get_or done (a + j) 0
    same a j more m = get_or-drop a (done ++ more) j 0 ∙ get_or_append_left done more 0 (a + j) m

    source : Row t size row
    source =
        row_same t size (drop last (done ++ rest)) row
        (λ j m. ap (λ z. get_or z j 0) from ∙ get_or-drop last done j 0 ∙ sym (same last j rest (omega (arith, ends)))) (rw power (f.row (level - 1) (omega arith)))

    made : Row t (2 ^ level) next
    made =
        let e : suc (level - 1) ≡ level = omega arith in
        let two : size + size ≡ 2 ^ level = let p : 2 ^ suc (level - 1) ≡ 2 ^ (level - 1) * 2 = pow-suc 2 (level - 1) in omega (arith, power, rw e at p) in
        rw two at (doubled_row t size row next (ap length from ∙ simp length-drop (omega (arith, ends))) source h)

    each : (k : ℕ) → Dec (k < level) → k < level + 1 → Row t (2 ^ k) (drop (k * length t) new)
    each k (yes l) m =
        let low : k + 1 ≤ level = omega arith in
        let inside : k * length t + length t ≤ length done = omega (arith, mul-le-mul_right (length t) low, add-mul k 1 (length t), full) in
        row_same t (2 ^ k) (drop (k * length t) (done ++ rest)) (drop (k * length t) new)
        (λ j b. same (k * length t) j _ (omega arith) ∙ sym (same (k * length t) j rest (omega arith))) (f.row k l)
    each k (no n) m =
        let e : k ≡ level = omega arith in
        let behind : drop (level * length t) new ≡ next ++ drop (length t) rest = rw (← full) (drop-append_seam done (next ++ drop (length t) rest)) in
        rw (e, behind) (row_same t (2 ^ level) next _ (λ j b. get_or_append_left next (drop (length t) rest) 0 j (omega (arith, long))) made)

-- ── Looking up a stretch ──

-- the row for a stretch of so many places, by the logarithm
pub level_small : (level n : ℕ) → 2 ^ level ≤ n → n ≤ 4096 → level < 13
level_small level n low few = go (dec_lt level 13)
  where
    go : Dec (level < 13) → level < 13
    go (yes l) = l
    go (no m) =
        let two : 0 < 2 = omega arith in
        let deep : 13 ≤ level = omega arith in
        let large : 2 ^ 13 ≤ 2 ^ level = pow-le-pow_right two deep in
        absurd (omega arith)

-- a row's number of places, as a shift computes it
pub shifted : (level : ℕ) → level < 13 → 1 * 2 ^ level % 18446744073709551616 ≡ 2 ^ level
shifted level l =
    let two : 0 < 2 = omega arith in
    let few : level ≤ 12 = omega arith in
    let small : 2 ^ level ≤ 2 ^ 12 = pow-le-pow_right two few in
    omega arith

-- The two numbers for a stretch: they are in the table, and the lesser of them is the degree of the end parts at its ends.
module _
    (t table : List ℕ) (level from to : ℕ) (few : length t ≤ 4096) (room : 13 * length t ≤ length table)
    (some : from < to) (inside : to ≤ length t) (low : 2 ^ level ≤ to - from) (high : to - from < 2 * 2 ^ level)
  where
    small : level < 13
    small = level_small level (to - from) low (omega arith)

    ends : level * length t + length t ≤ length table
    ends =
        let few : level + 1 ≤ 13 = omega (arith, small) in
        omega (arith, mul-le-mul_right (length t) few, add-mul level 1 (length t))

    second_is : level * length t + to - 1 * 2 ^ level % 18446744073709551616 ≡ level * length t + (to - 2 ^ level)
    second_is = rw (shifted level small) (omega arith)

    pub stretch_first : level * length t + from < length table
    stretch_first = omega (arith, ends)

    pub stretch_second : level * length t + to - 1 * 2 ^ level % 18446744073709551616 < length table
    stretch_second = omega (arith, ends, second_is, pow_pos level)

    pub stretch_degree : Rows t 13 table
        → Degree (cap t) (min (get_or table (level * length t + from) 0) (get_or table (level * length t + to - 1 * 2 ^ level % 18446744073709551616) 0)) (drop from t) (drop to t)
    stretch_degree rows =
        let row : Row t (2 ^ level) (drop (level * length t) table) = rows.row level small in
        let first : Degree (cap t) (get_or table (level * length t + from) 0) (drop from t) (drop (from + 2 ^ level) t) =
        rw get_or-drop at (row.at from (omega arith)) in
        let second : Degree (cap t) (get_or table (level * length t + (to - 2 ^ level)) 0) (drop (to - 2 ^ level) t) (drop to t) =
        let e : to - 2 ^ level + 2 ^ level ≡ to = omega arith in
        rw (get_or-drop, e) at (row.at (to - 2 ^ level) (omega (arith, pow_pos level))) in
        rw second_is (degree_stretches ℕ_discrete t (omega arith) (omega arith) (omega arith) first second)
