-- End parts of a word: what is left of it when letters are taken off its front. Of two end parts of one word, one is an end
-- part of the other.
use Rattle.std.proofs.Common.{◌≡◌, ◌≤◌, List, [], ◌∷◌, length, arith}
pub use Rattle.words.specs.Degrees.{Tail, whole, rest}
use Rattle.words.specs.Words.{Sub, skip}
use Rattle.words.proofs.Subsequences.{sub_refl, sub_length, sub_whole}

module _ {A : Type 0} where
  pub tail_empty : (t : List A) → Tail [] t
  tail_empty [] = whole
  tail_empty (a ∷ t) = rest (tail_empty t)

  pub tail_trans : {u v w : List A} → Tail u v → Tail v w → Tail u w
  tail_trans h whole = h
  tail_trans h (rest k) = rest (tail_trans h k)

  pub tail_behind : {a : A} {u t : List A} → Tail (a ∷ u) t → Tail u t
  tail_behind h = tail_trans (rest whole) h

  pub tail_sub : {w t : List A} → Tail w t → Sub w t
  tail_sub {w} whole = sub_refl w
  tail_sub (rest h) = skip (tail_sub h)

  pub tail_length : {w t : List A} → Tail w t → length w ≤ length t
  tail_length h = sub_length (tail_sub h)

  -- the shorter of two end parts of a word is an end part of the longer
  pub tail_shorter : {v w t : List A} → Tail v t → Tail w t → length v ≤ length w → Tail v w
  tail_shorter whole whole l = whole
  tail_shorter whole (rest k) l = absurd (omega (arith, tail_length k))
  tail_shorter (rest h) whole l = rest h
  tail_shorter (rest {t = t} h) (rest k) l = tail_shorter {t = t} h k l

  -- and an end part of one that is no longer is all of it
  pub tail_whole : {v w : List A} → Tail v w → length w ≤ length v → v ≡ w
  tail_whole h l = sub_whole (tail_sub h) (omega (arith, tail_length h))
