-- The order of a letter kind, as the relation that the definitions on words take.
use Rattle.std.specs.Prelude.{◌≡◌}
use Rattle.std.specs.declared.cmp.Ordering.TheVariants.{Less}
use Rattle.std.specs.declared.cmp.Ordering.{Ordering}

-- the letter `a` comes before `b`
abbrev pub Before : {A : Type 0} → (A → A → Ordering) → A → A → Type 0
Before order a b = order a b ≡ Less
