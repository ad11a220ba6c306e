-- The strip rule gives a call on a word one outcome at most.
use Rattle.std.proofs.Common.{◌≡◌, ℕ, List, [], ◌∷◌, ◌++◌, length, sym, refl, ap, ◌∙◌, arith}
use Rattle.std.proofs.lemmas.List.{length_push, same_from_push}
use Rattle.strips.specs.Rule.{Call, Put, Take, Clear, Answer, Taken, Rule, full, crowded, added, empty, removed, cleared, RuleIsOne}

module _ {A : Type 0} (capacity : ℕ) (w : List A) where
  not_both : (v : List A) (a : A) → w ≡ [] → w ≡ v ++ (a ∷ []) → ⊥
  not_both v a none some = omega (arith, ap length (sym none ∙ some), length_push v a)

  one : (call : Call A) (answer answer' : Answer A) (v v' : List A) → Rule capacity w call answer v → Rule capacity w call answer' v' → (answer ≡ answer') × (v ≡ v')
  one (Put a) _ _ _ _ (full h) (full k) = (refl, refl)
  one (Put a) _ _ _ _ (full h) (crowded k n) = absurd (omega (arith, h, k))
  one (Put a) _ _ _ _ (full h) (added k n) = absurd (omega (arith, h, k))
  one (Put a) _ _ _ _ (crowded h m) (full k) = absurd (omega (arith, h, k))
  one (Put a) _ _ _ _ (crowded h m) (crowded k n) = (refl, refl)
  one (Put a) _ _ _ _ (crowded h m) (added k n) = absurd (m n)
  one (Put a) _ _ _ _ (added h m) (full k) = absurd (omega (arith, h, k))
  one (Put a) _ _ _ _ (added h m) (crowded k n) = absurd (n m)
  one (Put a) _ _ _ _ (added h m) (added k n) = (refl, refl)
  one Take _ _ _ _ (empty e) (empty f) = (refl, refl)
  one Take _ _ _ v' (empty e) (removed {a = b} f) = absurd (not_both v' b e f)
  one Take _ _ v _ (removed {a = a} e) (empty f) = absurd (not_both v a f e)
  one Take _ _ v v' (removed {a = a} e) (removed {a = b} f) = let s = same_from_push v v' a b (sym e ∙ f) in (ap Taken s.1, s.0)
  one Clear _ _ _ _ cleared cleared = (refl, refl)

pub rule_is_one : (A : Type 0) → RuleIsOne A
rule_is_one A capacity w = one capacity w
