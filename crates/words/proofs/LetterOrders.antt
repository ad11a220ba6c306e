-- The order of a letter kind is an order: what its laws say, in the terms of the theory of words. And the order of numbers.
use Rattle.std.proofs.Common.{◌≡◌, ℕ, ◌<◌, true, ◌⊎◌, Ordering, Less, Equal, Greater, refl, ap, ◌∙◌, inl, inr, arith}
use native.Mathlib.Decide.{dec_lt}
use Rattle.std.specs.Ordering.{is_le, ordering_reverse}
use Rattle.words.specs.Letters.{Before}
use Rattle.words.specs.Words.{Order}

module _ {A : Type 0} (o : A → A → Ordering) (same : (a b : A) → o a b ≡ Equal → a ≡ b) (itself : (a : A) → o a a ≡ Equal)
    (flips : (a b : A) → o b a ≡ ordering_reverse (o a b))
    (onward : (a b c : A) → is_le (o a b) ≡ true → is_le (o b c) ≡ true → is_le (o a c) ≡ true) where
  pub before_order : Order (Before o)
  before_order = record {
    irreflexive = λ {a} h. never a h;
    transitive = λ {a} {b} {c} h k. further a b c h k (o a c) refl;
    total = λ {a} {b} n. either a b n (o a b) refl;
  }
    where
      never : (a : A) → ¬ Before o a a
      never a h = let z : ◌≡◌ {A = ℕ} 0 1 = cc (itself a) in omega arith

      further : (a b c : A) → Before o a b → Before o b c → (r : Ordering) → o a c ≡ r → Before o a c
      further a b c h k Less e = e
      further a b c h k Equal e =
          let f : a ≡ c = same a c e in
          let g : o b a ≡ Less = rw f k in
          let z : ◌≡◌ {A = ℕ} 0 1 = cc (flips a b, ap ordering_reverse h) in
          absurd (omega arith)
      further a b c h k Greater e =
          let l = onward a b c (ap is_le h) (ap is_le k) in
          let z : ◌≡◌ {A = ℕ} 0 1 = cc (ap is_le e) in
          absurd (omega arith)

      either : (a b : A) → ¬ (a ≡ b) → (r : Ordering) → o a b ≡ r → Before o a b ⊎ Before o b a
      either a b n Less e = inl e
      either a b n Equal e = absurd (n (same a b e))
      either a b n Greater e = inr (flips a b ∙ ap ordering_reverse e)

-- what the answer of a comparison says
module _ {A : Type 0} (o : A → A → Ordering) (a b : A) {r : Ordering} (e : r ≡ o a b) where
  pub not_before : (r ≡ Equal) ⊎ (r ≡ Greater) → ¬ Before o a b
  not_before (inl f) h = let z : ◌≡◌ {A = ℕ} 0 1 = cc in omega arith
  not_before (inr f) h = let z : ◌≡◌ {A = ℕ} 0 1 = cc in omega arith

  pub not_same : o a a ≡ Equal → (r ≡ Less) ⊎ (r ≡ Greater) → ¬ (a ≡ b)
  not_same i (inl f) h = let k = ap (o a) h in let z : ◌≡◌ {A = ℕ} 0 1 = cc in omega arith
  not_same i (inr f) h = let k = ap (o a) h in let z : ◌≡◌ {A = ℕ} 0 1 = cc in omega arith

pub numbers_order : Order {A = ℕ} ◌<◌
numbers_order =
    record { irreflexive = omega arith; transitive = λ h k. omega arith; total = λ {a} {b} n. either a b n (dec_lt a b) }
  where
    either : (a b : ℕ) → ¬ (a ≡ b) → Dec (a < b) → (a < b) ⊎ (b < a)
    either a b n (yes l) = inl l
    either a b n (no l) = inr (omega arith)
