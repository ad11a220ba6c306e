-- The order rules, from std's total orders. No contract cites this; it stands here since an impl's laws can be answered only
-- from specs/.
use Rattle.std.specs.Prelude.{◌≡◌, true}
use Rattle.std.proofs.Common.{refl, ◌∙◌, ap, sym}
use Rattle.std.specs.declared.cmp.Ordering.{Ordering}
use Rattle.std.specs.declared.cmp.Ordering.TheVariants.{Less, Equal, Greater}
use Rattle.std.specs.Cmp.{IsTotalOrder}
use Rattle.std.specs.Ordering.{is_le, ordering_reverse}

module _ {A : Type 0} {order : A → A → Ordering} (total : IsTotalOrder order) where
  by_cases : (a b c : A) (o p : Ordering) → order a b ≡ o → order b c ≡ p → is_le o ≡ true → is_le p ≡ true → is_le (order a c) ≡ true
  by_cases a b c Less Less e f h k = ap is_le (total.trans a b c e f)
  by_cases a b c Less Equal e f h k =
      ap is_le (total.antisymm a c ∙ (ap ordering_reverse (sym (total.congr b c a f)) ∙ (sym (total.antisymm a b) ∙ e)))
  by_cases a b c Less Greater e f h k = absurd (cc)
  by_cases a b c Equal p e f h k = ap is_le (total.congr a b c e ∙ f) ∙ k
  by_cases a b c Greater p e f h k = absurd (cc)

  -- not after, and not after again, is not after
  pub not_after_chains : (a b c : A) → is_le (order a b) ≡ true → is_le (order b c) ≡ true → is_le (order a c) ≡ true
  not_after_chains a b c h k = by_cases a b c (order a b) (order b c) refl refl h k
