-- Each call, as its code does it, obeys the rule.
use Rattle.std.proofs.Common.{◌≡◌, ℕ, ◌+◌, ◌<◌, ◌≤◌, min, List, [], ◌∷◌, ◌++◌, length, get_or, take, drop, set, sym, refl, ap, ◌∙◌, subst, inl, inr, arith, length-set}
use mathlib.Core.Logic.{∥∥₁_map}
use Rattle.std.proofs.lemmas.List.{take-take, length-take, take_more, take_more_set, length-take-le, drop-set-lt}
use Rattle.strips.specs.declared.strip.Strip.{Strip}
use Rattle.strips.specs.Words.{AtMost}
use Rattle.strips.specs.Rule.{Call, Put, Take, Clear, Answer, Done, Taken, Refused, Admits, Rule, full, crowded, added, empty, removed, cleared}
use Rattle.strips.specs.Strips.{Obeys, memory_of, word_of, capacity_of}
use Rattle.strips.proofs.Letters.{at_most_none, at_most_same, at_most_more, at_most_front}

module _ {A : Type 0} where
  -- The different letters stay few.
  pub few_none : ∥ AtMost {A = A} 64 [] ∥₁
  few_none = ∣ at_most_none 64 ∣₁

  -- No more than one letter.
  pub few_one : (n : ℕ) (w : List A) → n ≤ 1 → ∥ AtMost 64 (take n w) ∥₁
  few_one n w short = ∣ (take n w, simp length-take (omega arith), λ a here. here) ∣₁

  pub few_added : (w : List A) (a : A) → Admits a w → ∥ AtMost 64 w ∥₁ → ∥ AtMost 64 (w ++ (a ∷ [])) ∥₁
  few_added w a (inl here) few = ∥∥₁_map few (at_most_same 64 w a here)
  few_added w a (inr room) few = ∣ at_most_more 63 w a room ∣₁

  pub few_fewer : (m n : ℕ) (w : List A) → m ≤ n → ∥ AtMost 64 (take n w) ∥₁ → ∥ AtMost 64 (take m w) ∥₁
  few_fewer m n w h few = ∥∥₁_map few (λ k. subst (AtMost 64) (take-take m n w h) (at_most_front 64 m (take n w) k))

  pub word_length : (s : Strip A) → length (word_of s) ≡ s.len
  word_length s = length-take-le s.len (memory_of s) (omega (arith, s.fits))

  -- A call that writes nothing.
  pub unwritten : (s t : Strip A) (call : Call A) (answer : Answer A) → t.letters ≡ s.letters → Rule (capacity_of s) (word_of s) call answer (word_of t) → Obeys s call answer t
  unwritten s t call answer same rule =
      record { rule = rule; rest = ap (λ m. drop t.len m.now) same; capacity = ap (λ m. min (length m.now) 4096) same; lender = ap (λ m. m.ghost_name) same }

  -- A refusal, with the length that the code has for the word's.
  pub refused : (s : Strip A) (call : Call A) (number : ℕ) → Rule (capacity_of s) (word_of s) call (Refused number (length (word_of s))) (word_of s)
      → Obeys s call (Refused number s.len) s
  refused s call number rule =
      unwritten s s call (Refused number s.len) refl (subst (λ n. Rule (capacity_of s) (word_of s) call (Refused number n) (word_of s)) (word_length s) rule)

  pub put_full : (s : Strip A) (a : A) → capacity_of s ≤ s.len → Obeys s (Put a) (Refused 31 s.len) s
  put_full s a over = refused s (Put a) 31 (full (omega (arith, word_length s)))

  pub put_crowded : (s : Strip A) (a : A) → s.len < capacity_of s → (Admits a (word_of s) → ⊥) → Obeys s (Put a) (Refused 32 s.len) s
  put_crowded s a room not = refused s (Put a) 32 (crowded (omega (arith, word_length s)) not)

  pub put_done : (s t : Strip A) (a : A) → t.len ≡ s.len + 1 → memory_of t ≡ set (memory_of s) s.len a → t.letters.ghost_name ≡ s.letters.ghost_name
      → s.len < capacity_of s → Admits a (word_of s) → Obeys s (Put a) Done t
  put_done s t a longer written lender room admitted =
      let word : word_of t ≡ word_of s ++ (a ∷ []) =
      ap (λ n. take n (memory_of t)) longer ∙ ap (take (s.len + 1)) written ∙ take_more_set (memory_of s) s.len a (omega arith) in
      record {
        rule = subst (Rule (capacity_of s) (word_of s) (Put a) Done) (sym word) (added (omega (arith, word_length s)) admitted);
        rest = ap (drop t.len) written ∙ drop-set-lt t.len (memory_of s) s.len a (omega (arith, longer));
        capacity = ap (λ n. min n 4096) (ap length written ∙ length-set (memory_of s) s.len a);
        lender = lender;
      }

  pub take_empty : (s : Strip A) → s.len ≡ 0 → Obeys s Take (Refused 33 0) s
  take_empty s none = subst (λ n. Obeys s Take (Refused 33 n) s) none (refused s Take 33 (empty (ap (λ n. take n (memory_of s)) none)))

  pub take_done : (s t : Strip A) (d : A) → s.len ≡ t.len + 1 → t.letters ≡ s.letters → Obeys s Take (Taken (get_or (memory_of s) t.len d)) t
  take_done s t d shorter same =
      let held : t.len < length (memory_of s) = omega (arith, shorter, s.fits) in
      let word : word_of s ≡ word_of t ++ (get_or (memory_of s) t.len d ∷ []) =
      ap (λ n. take n (memory_of s)) shorter ∙ take_more (memory_of s) t.len d held ∙ ap (λ m. take t.len m.now ++ (get_or (memory_of s) t.len d ∷ [])) (sym same) in
      unwritten s t Take (Taken (get_or (memory_of s) t.len d)) same (removed word)

  pub clear_done : (s t : Strip A) → t.len ≡ 0 → t.letters ≡ s.letters → Obeys s Clear Done t
  clear_done s t none same =
      let word : word_of t ≡ [] = ap (λ n. take n (memory_of t)) none in
      unwritten s t Clear Done same (subst (Rule (capacity_of s) (word_of s) Clear Done) (sym word) cleared)
