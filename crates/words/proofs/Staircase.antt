-- The staircase: what the letters say of two end parts, how that changes when a letter is put in front of one of them, and
-- what stands for the next place of the left word.
use Rattle.std.proofs.Common.{◌≡◌, Bool, true, false, ℕ, zero, suc, ◌+◌, ◌<◌, ◌≤◌, min, ◌⊎◌, List, [], ◌∷◌, ◌-◌, Option, Some, None, length, get_or, drop, replicate, set, refl, inl, inr, add-one, arith, get_or-set_other, get_or-set_same}
use Rattle.std.specs.Bool.{Decides, then_some}
use Rattle.std.specs.List.{fold}
use Rattle.std.specs.Option.{SomeIff}
use native.Mathlib.Decide.{dec_lt, ℕ_discrete}
use lib.Seq.{drop-length}
use Rattle.words.specs.Degrees.{Degree, Follow, both}
use Rattle.words.specs.Reading.{Reached, end_part, PlaceBehind}
use Rattle.words.specs.Places.{Paired, depth}
use Rattle.words.specs.RowSteps.{cap, Found}
use Rattle.words.specs.Stairs.{Stand, PartnerOf, PartnerFrom, Said, DegreeOf}
use Rattle.words.proofs.Degrees.{follow_sym, follow_empty, follow_other, degree_letters, degree_cap}
use Rattle.words.proofs.Subsequences.{congruent_zero}
use Rattle.words.proofs.Standing.{degree_stands, stands_empty}
use Rattle.words.proofs.Places.{drop_tail, paired_end, paired_mono, stands_paired, stands_unpaired}
use Rattle.words.proofs.Paths.{not_found, found_at}

-- ── What a letter says, from two places ──

pub says_both : (l r : Reached) (x i j level stand d : ℕ) → PlaceBehind l x (Some i) → PlaceBehind r x (Some j)
    → Stand l.word r.word i level stand → Degree (cap r.word) d (drop stand r.word) (drop j r.word)
    → Follow ℕ_discrete (cap r.word) x (end_part l) (end_part r) (min level d)
says_both l r x i j level stand d (b, n, o, e) (c, m, q, g) f h =
    both o q (rw (e, g) (degree_stands f.stands (drop_tail j r.word) h))

-- ── In memory ──

get_or_same : (n x k : ℕ) → get_or (replicate n k) x k ≡ k
get_or_same zero x k = refl
get_or_same (suc n) zero k = refl
get_or_same (suc n) (suc x) k = get_or_same n x k

-- of two empty words no letter says anything
pub said_empty : (K n : ℕ) → Said K (replicate n K) [] []
said_empty K n = record { says = λ x. rw (get_or_same n x K) (follow_empty ℕ_discrete K x) }

-- with a letter in front of one of the two words, only that letter says something else
module _ {K : ℕ} {memory u v : List ℕ} (a d : ℕ) (inside : a < length memory) (m : Said K memory u v) where
  pub said_left : (u' : List ℕ) → u' ≡ a ∷ u → Follow ℕ_discrete K a u' v d → Said K (set memory a d) u' v
  said_left u' e f = record { says = λ x. at x (ℕ_discrete x a) }
    where
      at : (x : ℕ) → Dec (x ≡ a) → Follow ℕ_discrete K x u' v (get_or (set memory a d) x K)
      at x (yes h) = rw (h, get_or-set_same memory a d K inside) f
      at x (no n) = rw (get_or-set_other memory a x d K n, e) (follow_other ℕ_discrete n (m.says x))

  pub said_right : (v' : List ℕ) → v' ≡ a ∷ v → Follow ℕ_discrete K a u v' d → Said K (set memory a d) u v'
  said_right v' e f = record { says = λ x. at x (ℕ_discrete x a) }
    where
      at : (x : ℕ) → Dec (x ≡ a) → Follow ℕ_discrete K x u v' (get_or (set memory a d) x K)
      at x (yes h) = rw (h, get_or-set_same memory a d K inside) f
      at x (no n) =
          rw (get_or-set_other memory a x d K n, e)
          (follow_sym ℕ_discrete (follow_other ℕ_discrete n (follow_sym ℕ_discrete (m.says x))))

-- ── The least of what the letters say ──

pub least_capped : (m : ℕ) (xs : List ℕ) → fold min m xs ≤ m
least_capped m [] = omega arith
least_capped m (y ∷ xs) = omega (arith, least_capped (min m y) xs)

least_below : (m K : ℕ) (xs : List ℕ) (x : ℕ) → m ≤ K → fold min m xs ≤ get_or xs x K
least_below m K [] x l = l
least_below m K (y ∷ xs) zero l = omega (arith, least_capped (min m y) xs)
least_below m K (y ∷ xs) (suc x) l = least_below (min m y) K xs x (omega arith)

least_among : (m K : ℕ) (xs : List ℕ) → ((x : ℕ) × (get_or xs x K ≡ fold min m xs)) ⊎ (fold min m xs ≡ m)
least_among m K [] = inr refl
least_among m K (y ∷ xs) = go (least_among (min m y) K xs) (dec_lt m y)
  where
    go : ((x : ℕ) × (get_or xs x K ≡ fold min (min m y) xs)) ⊎ (fold min (min m y) xs ≡ min m y) → Dec (m < y)
        → ((x : ℕ) × (get_or (y ∷ xs) x K ≡ fold min (min m y) xs)) ⊎ (fold min (min m y) xs ≡ m)
    go (inl (x, e)) b = inl (suc x, e)
    go (inr e) (yes b) = inr (omega arith)
    go (inr e) (no b) = inl (0, omega arith)

-- the degree is one more, or the cap
pub said_degree : {K : ℕ} {memory u v : List ℕ} → Said K memory u v → Degree K (min (fold min K memory + 1) K) u v
said_degree {K} {memory} m =
    let e : min (fold min K memory + 1) K ≡ min K (suc (fold min K memory)) = omega arith in
    rw e (degree_letters ℕ_discrete (λ x. get_or memory x K) m.says (λ x. least_below K K memory x (omega arith)) (either (least_among K K memory)))
  where
    either : ((x : ℕ) × (get_or memory x K ≡ fold min K memory)) ⊎ (fold min K memory ≡ K)
        → ((x : ℕ) × (get_or memory x K ≡ fold min K memory)) ⊎ (K ≤ suc (fold min K memory))
    either (inl w) = inl w
    either (inr e) = inr (omega arith)

-- if that is the cap, the words are equal
pub degree_of : {K d : ℕ} {u v : List ℕ} (b : Bool) → Decides b (d < K) → length v + 1 < K → Degree K d u v
    → DegreeOf K u v (then_some b d)
degree_of {u = u} {v = v} true (less, h) l f = ((f.1 0 (omega arith)).0 (congruent_zero u v), less refl, f)
degree_of {K} {d} {u} {v} false (h, more) l f = go (dec_lt d K)
  where
    go : Dec (d < K) → u ≡ v
    go (yes b) = let e : false ≡ true = more b in cc
    go (no n) = let e : d ≡ K = omega (arith, f.0) in degree_cap ℕ_discrete (omega arith) (rw e at f)

-- ── What stands for the next place ──

-- partners are met from right to left
pub partner_before : {s t : List ℕ} {i j k : ℕ} → Paired ℕ_discrete s t i k → PartnerFrom s t (i + 1) j → k ≤ j
partner_before p l =
    let b = paired_mono ℕ_discrete (omega (arith, l.from)) l.inside p l.paired in omega (arith, b)

pub partner_here : {s t : List ℕ} {i j : ℕ} → i < length s → Paired ℕ_discrete s t i j → PartnerFrom s t i j
partner_here {i = i} l p = record { place = i; from = omega arith; inside = omega arith; paired = p }

pub partner_later : {s t : List ℕ} {i j : ℕ} → PartnerFrom s t (i + 1) j → PartnerFrom s t i j
partner_later p = record { place = p.place; from = omega (arith, p.from); inside = p.inside; paired = p.paired }

pub stand_partner : {s t : List ℕ} {i j level : ℕ} → i < length s → Paired ℕ_discrete s t i j
    → Degree (cap t) level (drop i s) (drop j t) → depth ℕ_discrete s i < level → Stand s t i level j
stand_partner l p d b = record { inside = p.inside; stands = stands_paired ℕ_discrete l p d b }

-- there is no partner, or it does not agree above the depth
pub stand_other : {s t : List ℕ} {i v level stand : ℕ} → i < length s → v ≡ depth ℕ_discrete s i
    → ((j : ℕ) → Paired ℕ_discrete s t i j → (d : ℕ) × Degree (cap t) d (drop i s) (drop j t) × (d ≤ v))
    → Stand s t (i + 1) level stand → Stand s t i (min v level) stand
stand_other {s} l e f m =
    record { inside = m.inside; stands = rw e (stands_unpaired ℕ_discrete s l (rw e at f) (rw add-one at m.stands)) }

-- the ends stand for one another
pub partner_end : (s t : List ℕ) → PartnerFrom s t (length s) (length t)
partner_end s t = record { place = length s; from = omega arith; inside = omega arith; paired = paired_end ℕ_discrete s t }

pub stand_end : (s t : List ℕ) → Stand s t (length s) (cap t) (length t)
stand_end s t = record { inside = omega arith; stands = rw (drop-length s, drop-length t) (stands_empty (cap t) t) }

-- a partner as memory has it
pub partner_found : {s t : List ℕ} {i n : ℕ} (r : Option ℕ) → SomeIff r (1 ≤ n) (n - 1) → Found (Paired ℕ_discrete s t i) n
    → PartnerOf s t i r
partner_found None e f = not_found (omega (arith, e)) f
partner_found {n = n} (Some j) (l, e) f = rw e (found_at (n - 1) (omega arith) f)
